-- The two elements of an open circuit that are priced next.
use Rattle.std.proofs.Common.{◌≡◌, ℕ, ◌<◌, ◌≤◌, Bool, true, false, not, ◌&&◌, eqb, ltb, leb, sym, refl, ap, ◌∙◌, subst, inl, inr, arith}
use Rattle.std.proofs.lemmas.Bool.{not-true, not_from_false, cases_eq, cases_lt, cond_both, and_parts, and_from, le-leb, leb-true, leb-false, ltb-true, lt-ltb, eqb-false, ne_eqb}
use Rattle.matroid.specs.Sets.{Elements, with, without, lowest}
use Rattle.matroid.specs.Matroids.{Meaning, Laws}
use Rattle.promise.specs.Walks.{topmost, challenges, rival}
use Rattle.matroid.proofs.Members.{with_cases, lowest_cases, lowest_found}
use Rattle.matroid.proofs.Circuits.{circuit_inside, circuit_without, circuit_has, circuit_dependent}
use Rattle.promise.proofs.Bests.{best_found}
use Rattle.promise.proofs.Orders.{Before}
use Rattle.promise.proofs.Walking.{Open}
use Rattle.promise.proofs.Fitting.{low_high}
use Rattle.entry.specs.Entries.{Entry, low, high, known, Proper}

pub not_not : (b : Bool) → not (not b) ≡ b
not_not true = refl
not_not false = refl

-- i is as high as j, or higher
abbrev pub as_high : (ℕ → Entry) → ℕ → ℕ → Bool
as_high E i j = leb (high (E j)) (high (E i))

pub as_high_chain : (E : ℕ → Entry) (i j k : ℕ) → as_high E i j ≡ true → as_high E j k ≡ true → as_high E i k ≡ true
as_high_chain E i j k p q =
    let a = leb-true (high (E j)) (high (E i)) p in let b = leb-true (high (E k)) (high (E j)) q in le-leb (high (E k)) (high (E i)) (omega arith)

pub as_high_either : (E : ℕ → Entry) (i j : ℕ) → as_high E i j ≡ false → as_high E j i ≡ true
as_high_either E i j p = let a = leb-false (high (E j)) (high (E i)) p in le-leb (high (E i)) (high (E j)) (omega arith)

-- the topmost member is one, and no member is higher
topmost_found : (n : ℕ) (E : ℕ → Entry) (C : Elements) (i : ℕ) → i < n → C i ≡ true
    → (topmost n E C < n) × (C (topmost n E C) ≡ true) × ((k : ℕ) → k < n → C k ≡ true → high (E k) ≤ high (E (topmost n E C)))
topmost_found n E C i l c =
    let f = best_found C (λ j. not (C j)) (λ j. sym (not_not (C j))) (as_high E) (as_high_chain E) (as_high_either E) n i l c in
    (f.0, f.1, λ k lk ck. leb-true (high (E k)) (high (E (topmost n E C))) (f.2 k lk ck))

challenges_parts : (E : ℕ → Entry) (C : Elements) (f i : ℕ) → challenges E C f i ≡ true → (C i ≡ true) × (i ≡ f → ⊥) × (low (E f) < high (E i))
challenges_parts E C f i h =
    let p = and_parts (C i) _ h in
    let q = and_parts (not (eqb i f)) (ltb (low (E f)) (high (E i))) p.1 in
    (p.0, eqb-false i f (not-true (eqb i f) q.0), ltb-true (low (E f)) (high (E i)) q.1)

challenges_from : (E : ℕ → Entry) (C : Elements) (f i : ℕ) → C i ≡ true → (i ≡ f → ⊥) → low (E f) < high (E i) → challenges E C f i ≡ true
challenges_from E C f i c d l =
    and_from (C i) _ c (and_from (not (eqb i f)) _ (not_from_false (eqb i f) (ne_eqb i f d)) (lt-ltb (low (E f)) (high (E i)) l))

-- where f is challenged, its rival challenges it
rival_found : (n : ℕ) (E : ℕ → Entry) (C : Elements) (f i : ℕ) → i < n → challenges E C f i ≡ true
    → (rival n E C f < n) × (challenges E C f (rival n E C f) ≡ true)
rival_found n E C f i l r =
    let k : ℕ = lowest n (λ j. challenges E C f j && known (E j)) in
    cond_both (ltb k n) k (lowest n (challenges E C f)) (λ g. (g < n) × (challenges E C f g ≡ true))
    (λ h. elim (lowest_cases n (λ j. challenges E C f j && known (E j))) [
      | inl p ↦ (p.0, (and_parts (challenges E C f k) (known (E k)) p.1).0)
      | inr p ↦ let a = p.0 in let b = ltb-true k n h in absurd (omega arith)
    ])
    (λ h. lowest_found n (challenges E C f) i l r)

-- what is so of the pair f, g of an open circuit
pub record Pair (n : ℕ) (E : ℕ → Entry) (C : Elements) (f g : ℕ) : Type 0 where
  pub f_below : f < n
  pub f_in : C f ≡ true
  pub g_below : g < n
  pub g_in : C g ≡ true
  pub apart : g ≡ f → ⊥
  pub wide : low (E f) < high (E f)
  pub above : low (E f) < high (E g)
  pub highest : (x : ℕ) → C x ≡ true → high (E x) ≤ high (E f)
  pub lower : (x : ℕ) → C x ≡ true → low (E x) < high (E f)

-- the circuit of an open walk
module _ (m : Meaning) (laws : Laws m) (E : ℕ → Entry) (C : Elements) (o : Open m E C) where
  pub open_inside : (i : ℕ) → C i ≡ true → with o.kept o.closing i ≡ true
  open_inside i c = circuit_inside m o.kept o.closing i (subst (λ (D : Elements). D i ≡ true) o.is c)

  pub open_without : (i : ℕ) → C i ≡ true → m.independent (without (with o.kept o.closing) i) ≡ true
  open_without i c = circuit_without m o.kept o.closing i (subst (λ (D : Elements). D i ≡ true) o.is c)

  pub open_has : C o.closing ≡ true
  open_has = subst (λ (D : Elements). D o.closing ≡ true) (sym o.is) (circuit_has m laws o.kept o.closing o.closes)

  pub open_dependent : m.independent C ≡ false
  open_dependent = subst (λ (D : Elements). m.independent D ≡ false) (sym o.is) (circuit_dependent m laws o.kept o.closing o.closes)

  pub open_before : (x : ℕ) → C x ≡ true → Before E x o.closing
  open_before x c = elim (with_cases o.kept o.closing x (open_inside x c)) [
    | inl q ↦ subst (λ (j : ℕ). Before E j o.closing) (sym q) (omega arith, λ k. omega arith)
    | inr q ↦ o.before x q
  ]

  pub open_below : (x : ℕ) → C x ≡ true → x < m.size
  open_below x c = elim (with_cases o.kept o.closing x (open_inside x c)) [
    | inl q ↦ let b = o.closes.below in omega arith
    | inr q ↦ o.kept_below x q
  ]

  pub pair_found : ((i : ℕ) → Proper (E i)) → Pair m.size E C (topmost m.size E C) (rival m.size E C (topmost m.size E C))
  pair_found proper =
      let n : ℕ = m.size in
      let e : ℕ = o.closing in
      let x = o.wide in
      let fw = topmost_found n E C x.0 x.1 x.2 in
      let f : ℕ = topmost n E C in
      let bf = open_before f fw.1 in
      let top = fw.2 x.0 x.1 x.2 in
      let gap = x.4 in
      let wide : low (E f) < high (E f) = let a = bf.0 in omega arith in
      let some : (r : ℕ) × (r < n) × (challenges E C f r ≡ true) = elim (cases_eq e f) [
        | inl q ↦ (x.0, x.1, challenges_from E C f x.0 x.2 (λ k. x.3 (k ∙ sym q)) (let a = ap (λ (j : ℕ). low (E j)) q in omega arith))
        | inr d ↦ (
          e,
          o.closes.below,
          challenges_from E C f e open_has d (elim (cases_lt (low (E f)) (low (E e))) [
            | inl k ↦ let a = low_high (E e) (proper e) in omega arith
            | inr k ↦ let a = bf.1 k in omega arith
          ]),
        )
      ] in
      let gp = rival_found n E C f some.0 some.1 some.2 in
      let g : ℕ = rival n E C f in
      let gr = challenges_parts E C f g gp.1 in
      record {
        f_below = fw.0;
        f_in = fw.1;
        g_below = gp.0;
        g_in = gr.0;
        apart = gr.1;
        wide = wide;
        above = gr.2;
        highest = λ y c. fw.2 y (open_below y c) c;
        lower = λ y c. let a = (open_before y c).0 in omega arith;
      }
