-- Prices refine the entries: what fits them fits the sheet, the ledger and the notes, and the other way round.
use Rattle.std.proofs.Common.{◌≡◌, ℕ, ◌*◌, ◌<◌, true, false, eqb, ltb, List, [], ◌∷◌, ◌++◌, sym, refl, ap, ◌∙◌, subst, inl, inr, arith}
use Rattle.std.proofs.lemmas.Bool.{both_ways, cases_eq, cond-true, cond-false, and_parts, ltb-true, eq-eqb, ne_eqb}
use Rattle.element.specs.declared.Line.{Line}
use Rattle.promise.specs.Weighings.{Weighing, Fits, FitsSheet, Agrees, Each}
use Rattle.promise.specs.Surveys.{priced, line}
use Rattle.promise.proofs.Fitting.{times_lt}
use Rattle.entry.specs.Entries.{Entry, Known, Range, known, inside, Proper}

pub priced_here : (E : ℕ → Entry) (e p : ℕ) → priced E e p e ≡ Known p
priced_here E e p = cond-true (eqb e e) (Known p) (E e) (eq-eqb e e refl)

pub priced_other : (E : ℕ → Entry) (e p i : ℕ) → (i ≡ e → ⊥) → priced E e p i ≡ E i
priced_other E e p i d = cond-false (eqb i e) (Known p) (E i) (ne_eqb i e d)

-- known entries stay, and what is unknown was so
pub known_stays : (E : ℕ → Entry) (e p i : ℕ) → known (E i) ≡ true → known (priced E e p i) ≡ true
known_stays E e p i h = elim (cases_eq i e) [
  | inl q ↦ subst (λ (j : ℕ). known (priced E e p j) ≡ true) (sym q) (ap known (priced_here E e p))
  | inr d ↦ ap known (priced_other E e p i d) ∙ h
]

pub unknown_other : (E : ℕ → Entry) (e p i : ℕ) → known (priced E e p i) ≡ false → i ≡ e → ⊥
unknown_other E e p i h q = both_ways (known (priced E e p i)) h (subst (λ (j : ℕ). known (priced E e p j) ≡ true) (sym q) (ap known (priced_here E e p)))

pub unknown_was : (E : ℕ → Entry) (e p i : ℕ) → known (priced E e p i) ≡ false → known (E i) ≡ false
unknown_was E e p i h = sym (ap known (priced_other E e p i (unknown_other E e p i h))) ∙ h

pub inside_fits : (w : Weighing) (i : ℕ) (e : Entry) (p : ℕ) → inside e p ≡ true → w.value i ≡ p * w.scale → Fits w i e
inside_fits w i (Known q) p h k = absurd (both_ways false refl h)
inside_fits w i (Range l u) p h k =
    let a = and_parts (ltb l p) (ltb p u) h in
    let b = times_lt l p w.scale (ltb-true l p a.0) in
    let c = times_lt p u w.scale (ltb-true p u a.1) in
    let s = w.positive in
    (omega arith, omega arith)

pub priced_fits : (n : ℕ) (E : ℕ → Entry) (e p : ℕ) (w : Weighing) → e < n → inside (E e) p ≡ true → FitsSheet n (priced E e p) w
    → FitsSheet n E w × (w.value e ≡ p * w.scale)
priced_fits n E e p w l h f =
    let a : w.value e ≡ p * w.scale = subst (λ (x : Entry). Fits w e x) (priced_here E e p) (f e l) in (
      λ i k. elim (cases_eq i e) [
        | inl q ↦ subst (λ (j : ℕ). Fits w j (E j)) (sym q) (inside_fits w e (E e) p h a)
        | inr d ↦ subst (λ (x : Entry). Fits w i x) (priced_other E e p i d) (f i k)
      ],
      a,
    )

pub fits_priced : (n : ℕ) (E : ℕ → Entry) (e p : ℕ) (w : Weighing) → FitsSheet n E w → w.value e ≡ p * w.scale → FitsSheet n (priced E e p) w
fits_priced n E e p w f a i k = elim (cases_eq i e) [
  | inl q ↦ subst (λ (j : ℕ). Fits w j (priced E e p j)) (sym q) (subst (λ (x : Entry). Fits w e x) (sym (priced_here E e p)) a)
  | inr d ↦ subst (λ (x : Entry). Fits w i x) (sym (priced_other E e p i d)) (f i k)
]

pub each_append : {A : Type 0} (P : A → Type 0) (xs ys : List A) → Each P xs → Each P ys → Each P (xs ++ ys)
each_append P [] ys h k = k
each_append P (x ∷ xs) ys h k = (h.0, each_append P xs ys h.1 k)

pub each_parts : {A : Type 0} (P : A → Type 0) (xs ys : List A) → Each P (xs ++ ys) → Each P xs × Each P ys
each_parts P [] ys h = (tt, h)
each_parts P (x ∷ xs) ys h = let r = each_parts P xs ys h.1 in ((h.0, r.0), r.1)

-- the entries E are the sheet F with the lines of the ledger and the notes
pub record Tied (n : ℕ) (F : ℕ → Entry) (ledger noted : List Line) (E : ℕ → Entry) : Type 0 where
  pub refined : (i : ℕ) → known (E i) ≡ false → F i ≡ E i
  pub proper : (i : ℕ) → Proper (E i)
  pub below : Each (λ l. l.element < n) ledger × Each (λ l. l.element < n) noted
  pub back : (w : Weighing) → FitsSheet n E w → FitsSheet n F w × Each (Agrees w) ledger × Each (Agrees w) noted
  pub forth : (w : Weighing) → FitsSheet n F w → Each (Agrees w) ledger → Each (Agrees w) noted → FitsSheet n E w

module _ (n : ℕ) (F : ℕ → Entry) (L N : List Line) (E : ℕ → Entry) (t : Tied n F L N E) (e p : ℕ) (l : e < n) (h : inside (E e) p ≡ true) where
  refined_more : (i : ℕ) → known (priced E e p i) ≡ false → F i ≡ priced E e p i
  refined_more i k = t.refined i (unknown_was E e p i k) ∙ sym (priced_other E e p i (unknown_other E e p i k))

  proper_more : (i : ℕ) → Proper (priced E e p i)
  proper_more i = elim (cases_eq i e) [
    | inl q ↦ subst (λ (j : ℕ). Proper (priced E e p j)) (sym q) (subst (λ (x : Entry). Proper x) (sym (priced_here E e p)) tt)
    | inr d ↦ subst (λ (x : Entry). Proper x) (sym (priced_other E e p i d)) (t.proper i)
  ]

  pub tied_paid : Tied n F (L ++ (line e p ∷ [])) N (priced E e p)
  tied_paid = record {
    refined = refined_more;
    proper = proper_more;
    below = (each_append (λ x. x.element < n) L (line e p ∷ []) t.below.0 (l, tt), t.below.1);
    back = λ w f. let a = priced_fits n E e p w l h f in let b = t.back w a.0 in
        (b.0, each_append (Agrees w) L (line e p ∷ []) b.1 (a.1, tt), b.2);
    forth = λ w f a b. let c = each_parts (Agrees w) L (line e p ∷ []) a in fits_priced n E e p w (t.forth w f c.0 b) c.1.0;
  }

  pub tied_noted : Tied n F L (N ++ (line e p ∷ [])) (priced E e p)
  tied_noted = record {
    refined = refined_more;
    proper = proper_more;
    below = (t.below.0, each_append (λ x. x.element < n) N (line e p ∷ []) t.below.1 (l, tt));
    back = λ w f. let a = priced_fits n E e p w l h f in let b = t.back w a.0 in
        (b.0, b.1, each_append (Agrees w) N (line e p ∷ []) b.2 (a.1, tt));
    forth = λ w f a b. let c = each_parts (Agrees w) N (line e p ∷ []) b in fits_priced n E e p w (t.forth w f a c.0) c.1.0;
  }
