-- The counts of the lots, and what they say of a set and one more element.
use Rattle.std.proofs.Common.{◌≡◌, ℕ, ◌<◌, ◌≤◌, Bool, true, false, ◌&&◌, eqb, leb, List, length, Some, None, Ok, replicate, sym, ap, ◌∙◌, inl, inr, arith}
use lib.ListN.{get_or-replicate}
use Rattle.std.specs.List.{list_all}
use Rattle.std.proofs.lemmas.List.{get_or_default}
use Rattle.std.proofs.lemmas.List.Sums.{AllPass-from_list_all, list_all-from_AllPass}
use Rattle.std.proofs.lemmas.Bool.{cases_Bool, both_ways, cases_eq, and_from, and_parts, eq-eqb}
use Rattle.element.specs.Marks.{all_marks}
use Rattle.matroid.specs.Sets.{Elements, with, count, every}
use Rattle.matroid.specs.Circuits.{IsCircuit}
use Rattle.matroid.specs.Questions.{marked}
use Rattle.matroid.specs.Outcomes.{OutcomeOf}
use Rattle.matroid.proofs.Members.{none_false, every_true, every_from, with_here, with_there, with_cases}
use Rattle.matroid.proofs.Counts.{count_all, count_with, count_part}
use Rattle.kinds.specs.Kinds.{within_lot, lots}
use Rattle.kinds.specs.Lists.{all_places, at, lots_of}
use Rattle.kinds.proofs.Below.{every_same}
use Rattle.kinds.proofs.Lots.{fits_true, fits_test, lot_other, lot_here}
use Rattle.kinds.proofs.LotCircuits.{lots_circuit}
use Rattle.lots.specs.Counts.{Counted}

pub counted_none : (ls : List ℕ) (S : Elements) → Counted 0 ls S (replicate all_places 0)
counted_none ls S j l = get_or-replicate {A = ℕ} all_places j 0 0 l

-- no lot has more members than there are elements
pub counted_few : (i : ℕ) (ls : List ℕ) (S : Elements) (counts : List ℕ) → i < all_marks → Counted i ls S counts → (j : ℕ) → j < all_places → at counts j < all_marks
counted_few i ls S counts k h j l = let a = count_all i (within_lot (at ls) S j) in let b = h j l in omega arith

module _ (n : ℕ) (lot cap : ℕ → ℕ) (S : Elements) (e : ℕ) (below : e < n) where
  -- a lot below its cap takes one more
  pub room_independent : (lots n lot cap).independent S ≡ true → count n (within_lot lot S (lot e)) < cap (lot e)
      → (lots n lot cap).independent (with S e) ≡ true
  room_independent d h = fits_test n lot cap (with S e) (λ j. elim (cases_eq (lot e) j) [
    | inl z ↦
        let a = lot_here n lot S e (lot e) below in
        let b : count n (within_lot lot (with S e) (lot e)) ≤ cap (lot e) = omega arith in
        rw (← z) b
    | inr z ↦ let a = lot_other n lot S e j z in let b = fits_true n lot cap S d j in omega arith
  ])

  -- a full one does not
  pub full_dependent : S e ≡ false → cap (lot e) ≤ count n (within_lot lot S (lot e)) → (lots n lot cap).independent (with S e) ≡ false
  full_dependent z h =
      let a = count_with n (within_lot lot S (lot e)) e below (ap (λ (x : Bool). x && eqb (lot e) (lot e)) z) in
      let b = count_part n (with (within_lot lot S (lot e)) e) (within_lot lot (with S e) (lot e)) (λ i m w.
      elim (with_cases (within_lot lot S (lot e)) e i w) [
        | inl y ↦ and_from (with S e i) (eqb (lot i) (lot e)) (ap (with S e) y ∙ with_here S e) (eq-eqb (lot i) (lot e) (ap lot y))
        | inr y ↦ let (p, q) = and_parts (S i) (eqb (lot i) (lot e)) y in and_from (with S e i) (eqb (lot i) (lot e)) (with_there S e i p) q
      ]) in
      none_false ((lots n lot cap).independent (with S e)) (λ d. let f = fits_true n lot cap (with S e) d (lot e) in omega arith)

  pub full_circuit : (lots n lot cap).independent S ≡ true → S e ≡ false → cap (lot e) ≤ count n (within_lot lot S (lot e))
      → (C : Elements) → ((k : ℕ) → k < n → C k ≡ within_lot lot (with S e) (lot e) k) → IsCircuit (lots n lot cap) S e C
  full_circuit d z h C g k b =
      g k b ∙ lots_circuit n lot cap S e (record { below = below; independent = d; dependent = full_dependent z h }) k b

-- a test of each item, by the numbers of the items
all_every : (p : ℕ → Bool) (ls : List ℕ) → list_all p ls ≡ every (length ls) (λ i. p (at ls i))
all_every p ls = elim (cases_Bool (list_all p ls)) [
  | inl t ↦ t ∙ sym (every_from (length ls) (λ i. p (at ls i)) (λ i l. AllPass-from_list_all p ls t i 0 l))
  | inr f ↦ f ∙ sym (none_false (every (length ls) (λ i. p (at ls i))) (λ e. both_ways (list_all p ls) f
      (list_all-from_AllPass p ls (λ i d l. ap p (get_or_default ls i d 0 l) ∙ every_true (length ls) (λ i. p (at ls i)) e i l))))
]

-- what the code finds out from the counts, and from the test of them all
module _ (ls caps : List ℕ) (S : Elements) (counts : List ℕ) (counted : Counted (length ls) ls S counts) (known : (i : ℕ) → i < length ls → at ls i < all_places)
    (within : Bool) (tested : within ≡ list_all (λ l. leb (at counts l) (at caps l)) ls) where
  pub counts_test : (lots_of ls caps).independent S ≡ within
  counts_test = every_same (length ls) _ _ (λ i l. ap (λ (x : ℕ). leb x (at caps (at ls i))) (sym (counted (at ls i) (known i l)))) ∙ sym (tested ∙ all_every (λ l. leb (at counts l) (at caps l)) ls)

  pub counts_room : within ≡ true → (e : ℕ) → e < length ls → at counts (at ls e) < at caps (at ls e) → OutcomeOf (lots_of ls caps) S e (Ok None)
  counts_room t e l h =
      let q = counted (at ls e) (known e l) in
      (counts_test ∙ t, room_independent (length ls) (at ls) (at caps) S e l (counts_test ∙ t) (omega arith))

  pub counts_full : within ≡ true → (e : ℕ) → e < length ls → S e ≡ false → at caps (at ls e) ≤ at counts (at ls e) → (C : List Bool)
      → ((k : ℕ) → k < length ls → marked C k ≡ within_lot (at ls) (with S e) (at ls e) k) → OutcomeOf (lots_of ls caps) S e (Ok (Some C))
  counts_full t e l z h C g =
      let q = counted (at ls e) (known e l) in
      let f : at caps (at ls e) ≤ count (length ls) (within_lot (at ls) S (at ls e)) = omega arith in (
        counts_test ∙ t,
        full_dependent (length ls) (at ls) (at caps) S e l z f,
        full_circuit (length ls) (at ls) (at caps) S e l (counts_test ∙ t) z f (marked C) g,
      )
