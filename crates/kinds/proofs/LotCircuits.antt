-- Lots with caps: the circuit.
use Rattle.std.proofs.Common.{◌≡◌, ℕ, ◌<◌, Bool, true, not, ◌&&◌, eqb, sym, ap, ◌∙◌, inl, inr, arith}
use Rattle.std.proofs.lemmas.Bool.{cases_eq, and_parts, and_from, and_right, both_ways, eqb-true, eq-eqb, ne_eqb}
use Rattle.matroid.specs.Sets.{Elements, with, without}
use Rattle.matroid.specs.Circuits.{Closes, circuit, IsCircuit}
use Rattle.kinds.specs.Kinds.{within_lot, lots}
use Rattle.kinds.specs.Meanings.{WithinCaps}
use Rattle.matroid.proofs.Members.{without_parts, without_other}
use Rattle.matroid.proofs.Counts.{count_same, count_without}
use Rattle.kinds.proofs.Odd.{and_assoc}
use Rattle.kinds.proofs.Below.{same_tests}
use Rattle.kinds.proofs.Lots.{fits_true, fits_test, lot_part, lot_other, lot_here}

-- without a member of the lot of e, each lot of S with e fits
lighter : (n : ℕ) (lot cap : ℕ → ℕ) (S : Elements) (e : ℕ) → e < n → WithinCaps n lot cap S → (x : ℕ) → x < n → with S e x ≡ true → lot x ≡ lot e
    → WithinCaps n lot cap (without (with S e) x)
lighter n lot cap S e l h x b w q j =
    elim (cases_eq (lot e) j) [
      | inl z ↦
          let o = lot_here n lot S e j l in
          let c = count_without n (within_lot lot (with S e) j) x b (and_from (with S e x) (eqb (lot x) j) w (eq-eqb (lot x) j (q ∙ z))) in
          let d = count_same n (without (within_lot lot (with S e) j) x) (within_lot lot (without (with S e) x) j)
          (λ i _. sym (and_assoc (not (eqb i x)) (with S e i) (eqb (lot i) j))) in
          let f = h j in
          omega arith
      | inr z ↦
          let o = lot_other n lot S e j z in
          let c = lot_part n lot (without (with S e) x) (with S e) j (λ i _ y. (without_parts (with S e) x i y).1) in
          let f = h j in
          omega arith
    ]

-- without a member of another lot, the lot of e is as full as with it
as_full : (n : ℕ) (lot cap : ℕ → ℕ) (S : Elements) (e : ℕ) → WithinCaps n lot cap S → (x : ℕ) → (lot x ≡ lot e → ⊥)
    → WithinCaps n lot cap (without (with S e) x) → WithinCaps n lot cap (with S e)
as_full n lot cap S e h x q f j =
    elim (cases_eq (lot e) j) [
      | inl z ↦
          let c = count_same n (within_lot lot (with S e) j) (within_lot lot (without (with S e) x) j) (λ i _. elim (cases_eq i x) [
            | inl y ↦
                let r = ne_eqb (lot i) j (λ u. q (ap lot (sym y) ∙ u ∙ sym z)) in
                and_right (with S e i) (eqb (lot i) j) r ∙ sym (and_right (without (with S e) x i) (eqb (lot i) j) r)
            | inr y ↦ ap (λ (t : Bool). t && eqb (lot i) j) (sym (without_other (with S e) x i y))
          ]) in
          let g = f j in
          omega arith
      | inr z ↦
          let o = lot_other n lot S e j z in
          let g = h j in
          omega arith
    ]

-- the circuit of e is e with the members of S in its lot
pub lots_circuit : (n : ℕ) (lot cap : ℕ → ℕ) (S : Elements) (e : ℕ) → Closes (lots n lot cap) S e
    → IsCircuit (lots n lot cap) S e (within_lot lot (with S e) (lot e))
lots_circuit n lot cap S e c x b =
    let f = fits_true n lot cap S c.independent in
    sym (same_tests (circuit (lots n lot cap) S e x) (within_lot lot (with S e) (lot e) x)
    (λ t.
    let (w, i) = and_parts (with S e x) ((lots n lot cap).independent (without (with S e) x)) t in
    elim (cases_eq (lot x) (lot e)) [
      | inl z ↦ and_from (with S e x) (eqb (lot x) (lot e)) w (eq-eqb (lot x) (lot e) z)
      | inr z ↦
          absurd (both_ways ((lots n lot cap).independent (with S e)) c.dependent
          (fits_test n lot cap (with S e) (as_full n lot cap S e f x z (fits_true n lot cap (without (with S e) x) i))))
    ])
    (λ t.
    let (w, i) = and_parts (with S e x) (eqb (lot x) (lot e)) t in
    and_from (with S e x) ((lots n lot cap).independent (without (with S e) x)) w
    (fits_test n lot cap (without (with S e) x) (lighter n lot cap S e c.below f x b w (eqb-true (lot x) (lot e) i)))))
