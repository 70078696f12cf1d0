-- Words are binary: a part cancels where the xor of its words is 0.
use Rattle.std.proofs.Common.{◌≡◌, ℕ, zero, suc, ◌+◌, ◌*◌, ◌/◌, ◌%◌, ◌^◌, ◌<◌, Bool, true, false, cond, ◌&&◌, eqb, ◌↔◌, sym, refl, ap, ◌∙◌, subst, ap₂, zero-mul, arith}
use native.Mathlib.Nat.{zero-div}
use lib.Bits.{bit_xor, xor_shr, xor_mod, xor_lt}
use Rattle.std.proofs.lemmas.Bool.{eqb-false}
use Rattle.std.proofs.lemmas.Nat.{pow_pos, shr_split, shr_below, mod_below}
use Rattle.matroid.specs.Sets.{Elements, with}
use Rattle.matroid.specs.Matroids.{Laws}
use Rattle.matroid.specs.Circuits.{IsCircuit}
use Rattle.kinds.specs.Kinds.{differ, odd, bit, words}
use Rattle.kinds.specs.Meanings.{xored, XorZero, Dependency}
use Rattle.kinds.proofs.Dependencies.{no_dependency, no_dependency_independent}
use Rattle.kinds.proofs.BinaryCircuits.{binary_circuit}
use Rattle.kinds.proofs.Binary.{binary_laws}

-- the lowest bits
low_xor : (x y : ℕ) → x < 2 → y < 2 → eqb (bit_xor x y) 1 ≡ differ (eqb x 1) (eqb y 1)
low_xor zero zero h g = refl
low_xor zero (suc zero) h g = refl
low_xor (suc zero) zero h g = refl
low_xor (suc zero) (suc zero) h g = refl
low_xor zero (suc (suc y)) h g = absurd (omega arith)
low_xor (suc zero) (suc (suc y)) h g = absurd (omega arith)
low_xor (suc (suc x)) y h g = absurd (omega arith)

pub bit_of_xor : (a b c : ℕ) → bit (bit_xor a b) c ≡ differ (bit a c) (bit b c)
bit_of_xor a b c =
    ap (λ (x : ℕ). eqb (x % 2) 1) (xor_shr a b c)
    ∙ ap (λ (x : ℕ). eqb x 1) (xor_mod (a / 2 ^ c) (b / 2 ^ c) 1)
    ∙ low_xor ((a / 2 ^ c) % 2) ((b / 2 ^ c) % 2) (omega arith) (omega arith)

pub bit_zero : (c : ℕ) → bit 0 c ≡ false
bit_zero c = ap (λ (x : ℕ). eqb (x % 2) 1) (zero-div (2 ^ c))

bit_one : (p : Bool) (w c : ℕ) → bit (cond p w 0) c ≡ (p && bit w c)
bit_one true w c = refl
bit_one false w c = bit_zero c

-- a bit of the xor
pub bit_xored : (n : ℕ) (w : ℕ → ℕ) (P : Elements) (c : ℕ) → bit (xored n w P) c ≡ odd n (λ i. P i && bit (w i) c)
bit_xored zero w P c = bit_zero c
bit_xored (suc n) w P c = bit_of_xor (cond (P n) (w n) 0) (xored n w P) c ∙ ap₂ differ (bit_one (P n) (w n) c) (bit_xored n w P c)

xored_below : (n k : ℕ) (w : ℕ → ℕ) (P : Elements) → ((i : ℕ) → i < n → w i < 2 ^ k) → xored n w P < 2 ^ k
xored_below zero k w P h = pow_pos k
xored_below (suc n) k w P h = xor_lt k (cond (P n) (w n) 0) (xored n w P) (one (P n)) (xored_below n k w P (λ i l. h i (omega arith)))
  where
    one : (p : Bool) → cond p (w n) 0 < 2 ^ k
    one true = h n (omega arith)
    one false = pow_pos k

-- a number without a one among its bits is 0
no_bits : (k a : ℕ) → a < 2 ^ k → ((c : ℕ) → c < k → bit a c ≡ false) → a ≡ 0
no_bits zero a l h = omega arith
no_bits (suc k) a l h =
    let e : suc k ≡ 1 + k = omega arith in
    let q = shr_below a 1 k (subst (λ (j : ℕ). a < 2 ^ j) e l) in
    let f = eqb-false ((a / 2 ^ k) % 2) 1 (h k (omega arith)) in
    let s = shr_split a k in
    let m = mod_below a (2 ^ k) (pow_pos k) in
    let z : a / 2 ^ k ≡ 0 = omega arith in
    let y = ap (λ (x : ℕ). x * 2 ^ k) z ∙ zero-mul (2 ^ k) in
    no_bits k a (omega arith) (λ c b. h c (omega arith))

xor_dependency : (n : ℕ) (w : ℕ → ℕ) (S P : Elements) → XorZero n w S P → Dependency n 64 (λ i c. bit (w i) c) S P
xor_dependency n w S P z = record {
  some = z.some;
  even = λ c l. sym (bit_xored n w P c) ∙ ap (λ (x : ℕ). bit x c) z.cancelled ∙ bit_zero c;
}

dependency_xor : (n : ℕ) (w : ℕ → ℕ) (S P : Elements) → ((i : ℕ) → i < n → w i < 2 ^ 64) → Dependency n 64 (λ i c. bit (w i) c) S P → XorZero n w S P
dependency_xor n w S P h k = record {
  some = k.some;
  cancelled = no_bits 64 (xored n w P) (xored_below n 64 w P h) (λ c l. bit_xored n w P c ∙ k.even c l);
}

pub words_laws : (n : ℕ) (w : ℕ → ℕ) → Laws (words n w)
words_laws n w = binary_laws n 64 (λ i c. bit (w i) c)

-- independence in words
pub words_words : (n : ℕ) (w : ℕ → ℕ) → ((i : ℕ) → i < n → w i < 2 ^ 64) → (S : Elements)
    → ((words n w).independent S ≡ true) ↔ ((P : Elements) → XorZero n w S P → ⊥)
words_words n w b S = (
  (λ h P z. no_dependency n 64 (λ i c. bit (w i) c) S h P (xor_dependency n w S P z)),
  (λ h. no_dependency_independent n 64 (λ i c. bit (w i) c) S (λ P k. h P (dependency_xor n w S P b k))),
)

-- whatever part of an independent S with e has the xor 0, it is the circuit
pub words_circuit : (n : ℕ) (w : ℕ → ℕ) (S : Elements) (e : ℕ) → (words n w).independent S ≡ true
    → (C : Elements) → XorZero n w (with S e) C → IsCircuit (words n w) S e C
words_circuit n w S e h C z i l = binary_circuit n 64 (λ i c. bit (w i) c) S e h C (xor_dependency n w (with S e) C z) i l
