-- Bits of words, and sets that cancel before and after an elimination.
use Rattle.std.proofs.Common.{◌≡◌, ℕ, ◌+◌, ◌-◌, ◌*◌, ◌/◌, ◌%◌, ◌^◌, ◌<◌, Bool, true, false, cond, not, ◌&&◌, eqb, sym, ap, ◌∙◌, ap₂, inl, inr, one-mul, arith}
use native.Mathlib.Nat.{div-eq_of_lt}
use lib.Bits.{bit_xor}
use Rattle.std.proofs.lemmas.Bool.{cases_eq, cases_lt, and_right, eq-eqb, ne_eqb}
use Rattle.std.proofs.lemmas.Nat.{pow-add, pow_below, shl-shr, one_shl}
use Rattle.matroid.specs.Sets.{Elements}
use Rattle.kinds.specs.Kinds.{differ, odd, bit}
use Rattle.kinds.proofs.Odd.{differ_none, and_differ, and_assoc, odd_same, odd_differ, odd_and}
use Rattle.kinds.proofs.Words.{bit_of_xor}
use Rattle.words.specs.Reductions.{Equivalent, Cleared}

pub bit_eliminated : (p : Bool) (w l c : ℕ) → bit (cond p (bit_xor w l) w) c ≡ differ (bit w c) (p && bit l c)
bit_eliminated true w l c = bit_of_xor w l c
bit_eliminated false w l c = sym (differ_none (bit w c))

-- the sum of the words, each with the word l added where it has a one at bit m
eliminated_sum : (n : ℕ) (w v : ℕ → ℕ) (m l : ℕ) → ((i : ℕ) → i < n → v i ≡ cond (bit (w i) m) (bit_xor (w i) l) (w i)) → (P : Elements) (c : ℕ)
    → odd n (λ i. P i && bit (v i) c) ≡ differ (odd n (λ i. P i && bit (w i) c)) (odd n (λ i. P i && bit (w i) m) && bit l c)
eliminated_sum n w v m l h P c =
    odd_same n _ (λ i. differ (P i && bit (w i) c) ((P i && bit (w i) m) && bit l c))
    (λ i k.
    ap (λ (x : ℕ). P i && bit x c) (h i k)
    ∙ ap (λ (x : Bool). P i && x) (bit_eliminated (bit (w i) m) (w i) l c)
    ∙ and_differ (P i) (bit (w i) c) (bit (w i) m && bit l c)
    ∙ ap (differ (P i && bit (w i) c)) (sym (and_assoc (P i) (bit (w i) m) (bit l c))))
    ∙ odd_differ n (λ i. P i && bit (w i) c) (λ i. (P i && bit (w i) m) && bit l c)
    ∙ ap (differ (odd n (λ i. P i && bit (w i) c))) (odd_and n (λ i. P i && bit (w i) m) (bit l c))

pub eliminated_equivalent : (n : ℕ) (w v : ℕ → ℕ) (m l : ℕ) → m < 64 → bit l m ≡ false
    → ((i : ℕ) → i < n → v i ≡ cond (bit (w i) m) (bit_xor (w i) l) (w i)) → Equivalent n w v
eliminated_equivalent n w v m l b z h = record {
  forth = λ P k c d. eliminated_sum n w v m l h P c ∙ ap₂ (λ (x y : Bool). differ x (y && bit l c)) (k c d) (k m b);
  back = λ P k c d.
      let at-m : odd n (λ i. P i && bit (w i) m) ≡ false =
      sym (differ_none (odd n (λ i. P i && bit (w i) m)))
      ∙ ap (differ (odd n (λ i. P i && bit (w i) m))) (sym (and_right (odd n (λ i. P i && bit (w i) m)) (bit l m) z))
      ∙ sym (eliminated_sum n w v m l h P m) ∙ k m b in
      sym (differ_none (odd n (λ i. P i && bit (w i) c)))
      ∙ ap (λ (y : Bool). differ (odd n (λ i. P i && bit (w i) c)) (y && bit l c)) (sym at-m)
      ∙ sym (eliminated_sum n w v m l h P c) ∙ k c d;
}

pub equivalent_more : (n : ℕ) (a b c : ℕ → ℕ) → Equivalent n a b → Equivalent n b c → Equivalent n a c
equivalent_more n a b c p q = record { forth = λ P k. q.forth P (p.forth P k); back = λ P k. p.back P (q.back P k) }

-- a power of two has one one
pub bit_pow : (c k : ℕ) → bit (2 ^ c) k ≡ eqb k c
bit_pow c k =
    elim (cases_eq k c) [
      | inl e ↦
          let x : 2 ^ c / 2 ^ k ≡ 1 = ap (λ (j : ℕ). 2 ^ c / 2 ^ j) e ∙ ap (λ (j : ℕ). j / 2 ^ c) (sym (one-mul (2 ^ c))) ∙ shl-shr 1 c in
          ap (λ (j : ℕ). eqb (j % 2) 1) x ∙ sym (eq-eqb k c e)
      | inr e ↦ elim (cases_lt k c) [
        | inl l ↦
            let m : ℕ = c - 1 - k in
            let f : c ≡ (1 + m) + k = omega arith in
            let x : 2 ^ c / 2 ^ k ≡ 2 ^ 1 * 2 ^ m =
            ap (λ (j : ℕ). 2 ^ j / 2 ^ k) f ∙ ap (λ (j : ℕ). j / 2 ^ k) (pow-add 2 (1 + m) k) ∙ shl-shr (2 ^ (1 + m)) k ∙ pow-add 2 1 m in
            let y : (2 ^ c / 2 ^ k) % 2 ≡ 0 = omega arith in
            ap (λ (j : ℕ). eqb j 1) y ∙ sym (ne_eqb k c e)
        | inr l ↦
            let x : 2 ^ c / 2 ^ k ≡ 0 = div-eq_of_lt (pow_below c k (omega arith)) in
            ap (λ (j : ℕ). eqb (j % 2) 1) x ∙ sym (ne_eqb k c e)
      ]
    ]

pub bit_cleared : (w c : ℕ) → c < 64 → bit w c ≡ true → Cleared w c (bit_xor w ((1 * 2 ^ c) % 2 ^ 64))
bit_cleared w c l o k m =
    bit_of_xor w ((1 * 2 ^ c) % 2 ^ 64) k ∙ ap (λ (j : ℕ). differ (bit w k) (bit j k)) (one_shl c 64 l) ∙ ap (differ (bit w k)) (bit_pow c k)
    ∙ elim (cases_eq k c) [
      | inl e ↦
          ap₂ differ (ap (bit w) e ∙ o) (eq-eqb k c e) ∙ ap (λ (x : Bool). not x && bit w k) (sym (eq-eqb k c e))
      | inr e ↦
          ap (differ (bit w k)) (ne_eqb k c e) ∙ differ_none (bit w k) ∙ ap (λ (x : Bool). not x && bit w k) (sym (ne_eqb k c e))
    ]
