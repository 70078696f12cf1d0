-- The walk's order, and its earliest element.
use Rattle.std.proofs.Common.{◌≡◌, ℕ, ◌<◌, ◌≤◌, Bool, true, false, not, ◌&&◌, ◌||◌, eqb, ltb, refl, subst, inl, inr, arith}
use mathlib.Core.Path.{subst⁻¹}
use Rattle.std.proofs.lemmas.Bool.{not-true, not_from_false, eqb-true, eqb-false, or_cases, or_parts, or_right}
use Rattle.std.proofs.lemmas.Bool.Decides.{nat_tests}
use Rattle.matroid.specs.Sets.{Elements}
use Rattle.promise.specs.Walks.{earlier, earliest}
use Rattle.promise.proofs.Bests.{best_found}
use Rattle.entry.specs.Entries.{Entry, low, high}

-- i may stand before j
abbrev pub Before : (ℕ → Entry) → ℕ → ℕ → Type 0
Before E i j = (low (E i) ≤ low (E j)) × (low (E j) ≤ low (E i) → high (E i) ≤ high (E j))

-- the order on three numbers each
abbrev lower : ℕ → ℕ → ℕ → ℕ → ℕ → ℕ → Bool
lower a b i c d j = ltb a c || (eqb a c && (ltb b d || (eqb b d && ltb i j)))

lower_first : (a b i c d j : ℕ) → lower a b i c d j ≡ true → a ≤ c
lower_first a b i c d j h = grind (arith, nat_tests)

lower_second : (a b i c d j : ℕ) → lower a b i c d j ≡ true → c ≤ a → b ≤ d
lower_second a b i c d j h k = grind (arith, nat_tests)

lower_chain : (a b i c d j e f k : ℕ) → lower a b i c d j ≡ true → lower c d j e f k ≡ true → lower a b i e f k ≡ true
lower_chain a b i c d j e f k p q = grind (arith, nat_tests)

lower_either : (a b i c d j : ℕ) → (j ≡ i → ⊥) → lower a b i c d j ≡ false → lower c d j a b i ≡ true
lower_either a b i c d j ne p = grind (arith, nat_tests)

lower_not : (a b i c d j : ℕ) → j < i → lower a b i c d j ≡ not (eqb i j || lower c d j a b i)
lower_not a b i c d j l = grind (arith, nat_tests)

module _ (E : ℕ → Entry) where
  -- i is j, or earlier
  abbrev pub no_later : ℕ → ℕ → Bool
  no_later i j = eqb j i || earlier E i j

  pub no_later_chain : (i j k : ℕ) → no_later i j ≡ true → no_later j k ≡ true → no_later i k ≡ true
  no_later_chain i j k p q = elim (or_cases (eqb j i) (earlier E i j) p) [
    | inl e ↦ subst (λ (x : ℕ). no_later x k ≡ true) (eqb-true j i e) q
    | inr x ↦ elim (or_cases (eqb k j) (earlier E j k) q) [
      | inl e ↦ subst⁻¹ (λ (y : ℕ). no_later i y ≡ true) (eqb-true k j e) p
      | inr y ↦ or_right (eqb k i) (earlier E i k) (lower_chain (low (E i)) (high (E i)) i (low (E j)) (high (E j)) j (low (E k)) (high (E k)) k x y)
    ]
  ]

  pub no_later_either : (i j : ℕ) → no_later i j ≡ false → no_later j i ≡ true
  no_later_either i j h =
      let p = or_parts (eqb j i) (earlier E i j) h in
      or_right (eqb i j) (earlier E j i) (lower_either (low (E i)) (high (E i)) i (low (E j)) (high (E j)) j (eqb-false j i p.0) p.1)

  -- i is earlier than a lower number j unless j is no later than i
  pub earlier_not : (i j : ℕ) → j < i → earlier E i j ≡ not (no_later j i)
  earlier_not i j = lower_not (low (E i)) (high (E i)) i (low (E j)) (high (E j)) j

  before : (i j : ℕ) → no_later i j ≡ true → Before E i j
  before i j h = elim (or_cases (eqb j i) (earlier E i j) h) [
    | inl e ↦ subst (λ (x : ℕ). Before E x j) (eqb-true j i e) (omega arith, λ k. omega arith)
    | inr x ↦ (lower_first (low (E i)) (high (E i)) i (low (E j)) (high (E j)) j x, lower_second (low (E i)) (high (E i)) i (low (E j)) (high (E j)) j x)
  ]

  -- where an element is untaken, the earliest is untaken and stands before all that are
  pub earliest_found : (n : ℕ) (T : Elements) (i : ℕ) → i < n → T i ≡ false
      → (earliest n E T < n) × (T (earliest n E T) ≡ false) × ((j : ℕ) → j < n → T j ≡ false → Before E (earliest n E T) j)
  earliest_found n T i l t =
      let f = best_found (λ j. not (T j)) T (λ j. refl) no_later no_later_chain no_later_either n i l (not_from_false (T i) t) in
      let e : ℕ = earliest n E T in
      (f.0, not-true (T e) f.1, λ j lj u. before e j (f.2 j lj (not_from_false (T j) u)))
