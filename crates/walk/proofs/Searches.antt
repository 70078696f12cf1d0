-- What searches of the numbers below n come to.
use Rattle.std.proofs.Common.{◌≡◌, ℕ, zero, suc, ◌+◌, ◌<◌, ◌≤◌, max, Bool, true, false, not, ◌&&◌, ◌||◌, ◌⊎◌, List, ◌∷◌, map, length, get_or, fold, Some, None, Option, sym, refl, ap, ◌∙◌, subst, inl, inr, arith}
use Rattle.std.specs.Bool.{MatchBool}
use Rattle.std.specs.Option.{MatchOption, IsSomeAnd, unwrap_or}
use Rattle.std.specs.List.{HoldsAt, AllWithin, filter, range_with_len, slice_get, reduce}
use denote.Param.Members.{Mut, Called}
use denote.Ref.{Bor}
use Rattle.std.specs.Fn.{CalledAt}
use Rattle.std.specs.declared.cmp.Ordering.{Ordering}
use Rattle.std.specs.Ordering.{is_lt}
use Rattle.std.specs.declared.ops.Range.{Range}
use Rattle.std.proofs.iter.Yields.{nat_range_steps}
use Rattle.std.specs.Iterator.{DrainsIf, ChecksAll, ChecksAny}
use Rattle.std.specs.Iterator.Runs.{WholeRun, AllItems, AnyItem, NoKeyBeyond}
use Rattle.std.proofs.iter.runs.Made.{took, at-is, each_of}
use Rattle.std.proofs.iter.runs.Lists.{Everywhere}
use mathlib.Core.List.{map-id}
use Rattle.std.proofs.lemmas.Iterator.{YieldsList, YieldsList-from_range, items_from_drains, cases_from_all, cases_from_any}
use Rattle.std.proofs.lemmas.List.FromFn.{length-range_with_len, get_or-range_with_len}
use Rattle.std.proofs.lemmas.Bool.Decides.{nat_tests}
use Rattle.std.proofs.lemmas.Grind.{common_steps}
use Rattle.std.proofs.lemmas.Bool.{both_ways, not_from_true, not_from_false, cond-true, cond-false, cases_Bool, cases_eq, cases_lt}
use Rattle.matroid.specs.Sets.{Elements, every, lowest}
use Rattle.matroid.proofs.Members.{none_false, every_from, every_not, lowest_none, lowest_is}
use Rattle.walk.specs.Walked.{found}

-- a call over the numbers below n, of a closure that computes the test p
module _ (n : ℕ) (p : ℕ → Bool) where
  abbrev below : Range ℕ
  below = record { start = 0; end = n }

  abbrev Holds : Bool → ℕ → Type 0
  Holds b x = p x ≡ b

  number : (i : ℕ) → i < n → get_or (range_with_len 0 n) i 0 ≡ i
  number i l = let z : 0 + i ≡ i = omega arith in get_or-range_with_len 0 n i 0 l ∙ z

  each_below : (b : Bool) → AllWithin (Holds b) (range_with_len 0 n) 0 (length (range_with_len 0 n)) → (i : ℕ) → i < n → p i ≡ b
  each_below b h i l = let e = length-range_with_len 0 n in subst (Holds b) (number i l) (h i 0 (omega arith) (omega arith))

  some_below : (b : Bool) → (k : ℕ) × (k < length (range_with_len 0 n)) × HoldsAt (Holds b) (range_with_len 0 n) k → (i : ℕ) × (i < n) × (p i ≡ b)
  some_below b (k, l, h) =
      let e = length-range_with_len 0 n in
      let m : k < n = omega arith in
      (k, m, subst (Holds b) (number k m) (h 0))

  module _ {F : Type 0} (u : Range ℕ) (f : F) {g : Mut F (ℕ × Unit {0}) Bool} (r : Bool) (computes : (x : ℕ) (b : Bool) (q : F) → Called g f (x, tt) b q → (q ≡ f) × (b ≡ p x)) where
    pub all_is : ChecksAll nat_range_steps g below f r u → r ≡ every n p
    all_is ran = by r (cases_from_all u f r (Holds true) (Holds false) ran (YieldsList-from_range 0 n n refl (omega arith))
        (λ x q k. let c = computes x true q k in (c.0, sym c.1)) (λ x q k. sym (computes x false q k).1))
      where
        by : (r : Bool) → MatchBool r (AllWithin (Holds true) (range_with_len 0 n) 0 (length (range_with_len 0 n))) ((k : ℕ) × (k < length (range_with_len 0 n)) × HoldsAt (Holds false) (range_with_len 0 n) k) → r ≡ every n p
        by true h = sym (every_from n p (each_below true h))
        by false h = let s = some_below false h in sym (every_not n p s.0 s.1 s.2)

    pub any_is : ChecksAny nat_range_steps g below f r u → not r ≡ every n (λ i. not (p i))
    any_is ran = by r (cases_from_any u f r (Holds true) (Holds false) ran (YieldsList-from_range 0 n n refl (omega arith))
        (λ x q k. sym (computes x true q k).1) (λ x q k. let c = computes x false q k in (c.0, sym c.1)))
      where
        by : (r : Bool) → MatchBool r ((k : ℕ) × (k < length (range_with_len 0 n)) × HoldsAt (Holds true) (range_with_len 0 n) k) (AllWithin (Holds false) (range_with_len 0 n) 0 (length (range_with_len 0 n))) → not r ≡ every n (λ i. not (p i))
        by true h = let s = some_below true h in sym (every_not n (λ i. not (p i)) s.0 s.1 (not_from_true (p s.0) s.2))
        by false h = sym (every_from n (λ i. not (p i)) (λ i l. not_from_false (p i) (each_below false h i l)))

-- what was found tells of k
pub found_at : (n k i : ℕ) → Some i ≡ found n k → (i < n) × (i ≡ k)
found_at n k i h = grind (arith, nat_tests)

pub found_no : (n k : ℕ) → None ≡ found n k → n ≤ k
found_no n k h = grind (arith, nat_tests)

pub found_or : (n k : ℕ) (o : Option ℕ) (r : ℕ) → k ≤ n → o ≡ found n k → r ≡ unwrap_or o n → r ≡ k
found_or n k o r u is h = grind (arith, nat_tests)

-- ## Of a filter

-- P holds of each that passes
each_passing : (C : Elements) (P : ℕ → Type 0) (n a : ℕ) → Everywhere (filter C (range_with_len a n)) P → (j : ℕ) → a ≤ j → j < a + n → C j ≡ true → P j
each_passing C P zero a h j l u c = absurd (omega arith)
each_passing C P (suc n) a h j l u c =
    let rest : List ℕ = filter C (range_with_len (a + 1) n) in
    elim (cases_Bool (C a)) [
      | inl q ↦
          let k = subst (λ (xs : List ℕ). Everywhere xs P) (cond-true (C a) (a ∷ rest) rest q) h in
          elim (cases_eq j a) [
            | inl e ↦ subst P (sym e) (k 0)
            | inr d ↦ each_passing C P n (a + 1) (λ i. k (suc i)) j (omega arith) (omega arith) c
          ]
      | inr q ↦
          each_passing C P n (a + 1) (subst (λ (xs : List ℕ). Everywhere xs P) (cond-false (C a) (a ∷ rest) rest q) h) j
          (elim (cases_eq j a) [ inl e ↦ absurd (both_ways (C a) q (subst (λ (x : ℕ). C x ≡ true) e c)) | inr d ↦ omega arith ]) (omega arith) c
    ]

-- what stands in it
passing : (C : Elements) (n a k m : ℕ) → slice_get (filter C (range_with_len a n)) k ≡ Some m → (a ≤ m) × (m < a + n) × (C m ≡ true)
passing C zero a k m h = cc
passing C (suc n) a k m h = elim (cases_Bool (C a)) [
  | inl q ↦ first k (λ i e. passing C n (a + 1) i m e) (subst (λ (xs : List ℕ). slice_get xs k ≡ Some m) (cond-true (C a) (a ∷ rest) rest q) h) q
  | inr q ↦
      let p = passing C n (a + 1) k m (subst (λ (xs : List ℕ). slice_get xs k ≡ Some m) (cond-false (C a) (a ∷ rest) rest q) h) in
      let x = p.0 in
      let y = p.1 in
      (omega arith, omega arith, p.2)
]
  where
    rest : List ℕ
    rest = filter C (range_with_len (a + 1) n)

    first : (k : ℕ) → ((i : ℕ) → slice_get rest i ≡ Some m → (a + 1 ≤ m) × (m < a + 1 + n) × (C m ≡ true)) → slice_get (a ∷ rest) k ≡ Some m → C a ≡ true
        → (a ≤ m) × (m < a + suc n) × (C m ≡ true)
    first zero later e q = let z : a ≡ m = cc in (omega arith, omega arith, subst (λ (x : ℕ). C x ≡ true) z q)
    first (suc k) later e q = let p = later k e in let x = p.0 in let y = p.1 in (omega arith, omega arith, p.2)

nowhere : (xs : List ℕ) (P : ℕ → Type 0) → length xs ≡ 0 → Everywhere xs P
nowhere xs P e = grind (arith, common_steps)

some_is : (o : Option ℕ) (m : ℕ) → IsSomeAnd o (λ x. x ≡ m) → o ≡ Some m
some_is o m h = grind arith

-- m passes, and none that passes goes ahead of it
pub record Best (C : Elements) (ahead : ℕ → ℕ → Bool) (n m : ℕ) : Type 0 where
  pub below : m < n
  pub member : C m ≡ true
  pub most : (j : ℕ) → j < n → C j ≡ true → ahead j m ≡ false

-- what `min_by_key` answers, of those that pass
module _ {S F K : Type 0} {steps : S → Option ℕ → S → Type 0} {s : S} {g : Mut F (Bor ℕ × Unit {0}) K} {f : F} (cmp : K → K → Ordering)
    (C : Elements) (ahead : ℕ → ℕ → Bool) (n : ℕ) (yields : YieldsList steps (λ x. x) s (filter C (range_with_len 0 n)))
    (keeps : (x : Bor ℕ × Unit {0}) (k : K) (h : F) → Called g f x k h → h ≡ f)
    (orders : (m x : ℕ) (k j : K) → CalledAt g f m k f → CalledAt g f x j f → is_lt (cmp j k) ≡ false → ahead x m ≡ false) where
  pub picked : (o : Option ℕ) → WholeRun steps s (λ p. MatchOption o (p.len ≡ 0) (λ m. AnyItem p (λ x. x ≡ m) × NoKeyBeyond p g f is_lt cmp m))
      → MatchOption o ((j : ℕ) → j < n → C j ≡ false) (Best C ahead n)
  picked o (p, e, w, h) = by o h
    where
      items : p.items ≡ filter C (range_with_len 0 n)
      items =
          let t = took p in
          sym (map-id p.items) ∙ items_from_drains p.items (subst (λ (x : S). DrainsIf steps (Unit {0}) x p.items) e (t.0, t.1, λ u. t.2 w)) yields

      each : (P : ℕ → Type 0) → AllItems p P → (j : ℕ) → j < n → C j ≡ true → P j
      each P h j l = each_passing C P n 0 (subst (λ (xs : List ℕ). Everywhere xs P) items (each_of p P h)) j (omega arith) (omega arith)

      by : (o : Option ℕ) → MatchOption o (p.len ≡ 0) (λ m. AnyItem p (λ x. x ≡ m) × NoKeyBeyond p g f is_lt cmp m) → MatchOption o ((j : ℕ) → j < n → C j ≡ false) (Best C ahead n)
      by None h = λ j l. none_false (C j) (each_passing C (λ x. ⊥) n 0 (subst (λ (xs : List ℕ). Everywhere xs (λ x. ⊥)) items (nowhere p.items (λ x. ⊥) (let z = p.long in omega arith))) j (omega arith) (omega arith))
      by (Some m) (a, k) =
          let at : slice_get (filter C (range_with_len 0 n)) a.0 ≡ Some m = ap (λ (xs : List ℕ). slice_get xs a.0) (sym items) ∙ (sym (at-is p a.0) ∙ some_is (p.at a.0) m a.2) in
          let z = passing C n 0 a.0 m at in
          let t = k keeps in
          record {
            below = let y = z.1 in omega arith;
            member = z.2;
            most = λ j l c. let y = each (λ x. (j : K) × CalledAt g f x j f × (is_lt (cmp j t.0) ≡ false)) t.2 j l c in orders m j t.0 y.0 t.1 y.1 y.2;
          }

-- by r, where q is what is not in C
pub best_is : (C q : Elements) (r ahead : ℕ → ℕ → Bool) (same : (j : ℕ) → C j ≡ not (q j)) (most : (m j : ℕ) → ahead j m ≡ false → r m j ≡ true)
    (first : (m j : ℕ) → j < m → ahead j m ≡ false → r j m ≡ false) (n : ℕ) (o : Option ℕ) → MatchOption o ((j : ℕ) → j < n → C j ≡ false) (Best C ahead n)
    → o ≡ found n (lowest n (λ i. C i && every n (λ j. q j || r i j)))
best_is C q r ahead same most first n None h = let e = lowest_none n (λ i. C i && every n (λ j. q j || r i j)) (λ i l. grind (arith, nat_tests, h i l)) in grind (arith, nat_tests)
best_is C q r ahead same most first n (Some m) h =
    let b = h.below in
    let e = lowest_is n (λ i. C i && every n (λ j. q j || r i j)) m h.below
    (grind (arith, nat_tests, h.member, every_from n (λ j. q j || r m j) (λ j l. grind (arith, nat_tests, same j, most m j, h.most j l))))
    (λ i l. grind (arith, nat_tests, same m, h.member, first m i l, h.most i, every_not n (λ j. q j || r i j) m h.below)) in
    grind (arith, nat_tests)

-- ## Of the first that passes

-- what `find` answers, of the numbers that pass
pub first_is : (C : Elements) (n : ℕ) (o : Option ℕ)
    → MatchOption o ((k : ℕ) → 0 ≤ k → k < n → C k ≡ false) (λ i. (0 ≤ i) × (i < n) × (C i ≡ true) × ((k : ℕ) → 0 ≤ k → k < i → C k ≡ false)) → o ≡ found n (lowest n C)
first_is C n None h = let e = lowest_none n C (λ i l. h i (omega arith) l) in grind (arith, nat_tests)
first_is C n (Some m) h = let b = h.1 in let e = lowest_is n C m h.1 h.2 (λ i l. h.3 i (omega arith) l) in grind (arith, nat_tests)

-- the largest of what h makes of the numbers that pass
module _ (C : Elements) (h : ℕ → ℕ) where
  abbrev passing_from : ℕ → ℕ → List ℕ
  passing_from a n = map h (filter C (range_with_len a n))

  -- r is at least m and all of them from a on, and is one of these
  record Tops (a n m r : ℕ) : Type 0 where
    least : m ≤ r
    most : (j : ℕ) → a ≤ j → j < a + n → C j ≡ true → h j ≤ r
    one : (r ≡ m) ⊎ ((i : ℕ) × (a ≤ i) × (i < a + n) × (C i ≡ true) × (h i ≡ r))

  tops : (n a m : ℕ) → Tops a n m (fold max m (passing_from a n))
  tops zero a m = record { least = omega arith; most = λ j l u c. absurd (omega arith); one = inl refl }
  tops (suc n) a m = elim (cases_Bool (C a)) [
    | inl q ↦ subst (λ (xs : List ℕ). Tops a (suc n) m (fold max m (map h xs))) (sym (cond-true (C a) (a ∷ rest) rest q)) (here q (tops n (a + 1) (max m (h a))))
    | inr q ↦ subst (λ (xs : List ℕ). Tops a (suc n) m (fold max m (map h xs))) (sym (cond-false (C a) (a ∷ rest) rest q)) (there q (tops n (a + 1) m))
  ]
    where
      rest : List ℕ
      rest = filter C (range_with_len (a + 1) n)

      here : C a ≡ true → Tops (a + 1) n (max m (h a)) (fold max (max m (h a)) (map h rest)) → Tops a (suc n) m (fold max m (map h (a ∷ rest)))
      here q t = let x = t.least in record {
        least = omega arith;
        most = λ j l u c. elim (cases_eq j a) [ inl e ↦ subst (λ (i : ℕ). h i ≤ fold max (max m (h a)) (map h rest)) (sym e) (omega arith) | inr d ↦ t.most j (omega arith) (omega arith) c ];
        one = elim t.one [
          | inl e ↦ elim (cases_lt m (h a)) [ inl l ↦ inr (a, omega arith, omega arith, q, omega arith) | inr l ↦ inl (omega arith) ]
          | inr w ↦ inr (w.0, (let y = w.1 in omega arith), (let y = w.2 in omega arith), w.3, w.4)
        ];
      }

      there : C a ≡ false → Tops (a + 1) n m (fold max m (map h rest)) → Tops a (suc n) m (fold max m (map h rest))
      there q t = let x = t.least in record {
        least = x;
        most = λ j l u c. elim (cases_eq j a) [ inl e ↦ absurd (both_ways (C a) q (subst (λ (i : ℕ). C i ≡ true) e c)) | inr d ↦ t.most j (omega arith) (omega arith) c ];
        one = elim t.one [ inl e ↦ inl e | inr w ↦ inr (w.0, (let y = w.1 in omega arith), (let y = w.2 in omega arith), w.3, w.4) ];
      }

  -- none passes from a on, or r is one of them, and none is larger
  abbrev Top : ℕ → ℕ → Option ℕ → Type 0
  Top a n o =
      MatchOption o ((i : ℕ) → a ≤ i → i < a + n → C i ≡ false)
      (λ r. ((j : ℕ) → a ≤ j → j < a + n → C j ≡ true → h j ≤ r) × ((i : ℕ) × (a ≤ i) × (i < a + n) × (C i ≡ true) × (h i ≡ r)))

  top : (n a : ℕ) → Top a n (reduce max (passing_from a n))
  top zero a = λ i l u. absurd (omega arith)
  top (suc n) a = elim (cases_Bool (C a)) [
    | inl q ↦ subst (λ (xs : List ℕ). Top a (suc n) (reduce max (map h xs))) (sym (cond-true (C a) (a ∷ rest) rest q)) (here q (tops n (a + 1) (h a)))
    | inr q ↦ subst (λ (xs : List ℕ). Top a (suc n) (reduce max (map h xs))) (sym (cond-false (C a) (a ∷ rest) rest q)) (there (reduce max (map h rest)) q (top n (a + 1)))
  ]
    where
      rest : List ℕ
      rest = filter C (range_with_len (a + 1) n)

      here : C a ≡ true → Tops (a + 1) n (h a) (fold max (h a) (map h rest)) → Top a (suc n) (Some (fold max (h a) (map h rest)))
      here q t =
          let x = t.least in (
            λ j l u c. elim (cases_eq j a) [ inl e ↦ subst (λ (i : ℕ). h i ≤ fold max (h a) (map h rest)) (sym e) x | inr d ↦ t.most j (omega arith) (omega arith) c ],
            elim t.one [ inl e ↦ (a, omega arith, omega arith, q, sym e) | inr w ↦ (w.0, (let y = w.1 in omega arith), (let y = w.2 in omega arith), w.3, w.4) ],
          )

      there : (o : Option ℕ) → C a ≡ false → Top (a + 1) n o → Top a (suc n) o
      there None q t = λ i l u. elim (cases_eq i a) [ inl e ↦ subst (λ (x : ℕ). C x ≡ false) (sym e) q | inr d ↦ t i (omega arith) (omega arith) ]
      there (Some r) q t = (
        λ j l u c. elim (cases_eq j a) [ inl e ↦ absurd (both_ways (C a) q (subst (λ (i : ℕ). C i ≡ true) e c)) | inr d ↦ t.0 j (omega arith) (omega arith) c ],
        let w = t.1 in (w.0, (let y = w.1 in omega arith), (let y = w.2 in omega arith), w.3, w.4),
      )

  pub top_all : (n : ℕ) (o : Option ℕ) → o ≡ reduce max (map h (filter C (range_with_len 0 n)))
      → MatchOption o ((i : ℕ) → i < n → C i ≡ false) (λ r. ((j : ℕ) → j < n → C j ≡ true → h j ≤ r) × ((i : ℕ) × (i < n) × (C i ≡ true) × (h i ≡ r)))
  top_all n o e = by o (subst (Top 0 n) (sym e) (top n 0))
    where
      by : (o : Option ℕ) → Top 0 n o → MatchOption o ((i : ℕ) → i < n → C i ≡ false) (λ r. ((j : ℕ) → j < n → C j ≡ true → h j ≤ r) × ((i : ℕ) × (i < n) × (C i ≡ true) × (h i ≡ r)))
      by None t = λ i l. t i (omega arith) (omega arith)
      by (Some r) t = (λ j l c. t.0 j (omega arith) (omega arith) c, let w = t.1 in (w.0, (let y = w.2 in omega arith), w.3, w.4))
