-- One more element gets a bit of its own.
use Rattle.std.proofs.Common.{◌≡◌, ℕ, ◌+◌, ◌<◌, Bool, true, false, cond, not, ◌&&◌, eqb, ◌⊎◌, sym, refl, ap, ◌∙◌, ap₂, inl, inr, arith}
use lib.Bits.{bit_xor}
use Rattle.std.proofs.lemmas.Bool.{cases_eq, cond-false, eq-eqb, ne_eqb, both_ways}
use Rattle.matroid.specs.Sets.{Elements}
use Rattle.kinds.specs.Kinds.{differ, bit}
use Rattle.kinds.proofs.Odd.{differ_self, odd_same}
use Rattle.words.specs.Reductions.{Equivalent, Cleared, Reduced}
use Rattle.words.proofs.Eliminated.{bit_eliminated, eliminated_equivalent, equivalent_more}

last_or : (k i : ℕ) → k < i + 1 → (k ≡ i) ⊎ (k < i)
last_or k i l = elim (cases_eq k i) [ inl e ↦ inl e | inr e ↦ inr (omega arith) ]

pub equivalent_same : (n : ℕ) (w v : ℕ → ℕ) → ((i : ℕ) → i < n → v i ≡ w i) → Equivalent n w v
equivalent_same n w v h = record {
  forth = λ P k c l. odd_same n _ _ (λ i b. ap (λ (x : ℕ). P i && bit x c) (h i b)) ∙ k c l;
  back = λ P k c l. odd_same n _ _ (λ i b. ap (λ (x : ℕ). P i && bit x c) (sym (h i b))) ∙ k c l;
}

pub reduced_none : (n : ℕ) (w v : ℕ → ℕ) (S : Elements) (p : ℕ → ℕ) (u : ℕ → Bool) → ((i : ℕ) → i < n → v i ≡ w i) → ((c : ℕ) → c < 64 → u c ≡ false)
    → Reduced n w v S 0 p u
reduced_none n w v S p u h z = record {
  equivalent = equivalent_same n w v h;
  below = λ k l. absurd (omega arith);
  units = λ k l. absurd (omega arith);
  used = λ k l. absurd (omega arith);
  pivot = λ c l o. absurd (both_ways (u c) (z c l) o);
  apart = λ j k l. absurd (omega arith);
}

module _ (n : ℕ) (w v v' : ℕ → ℕ) (S : Elements) (i : ℕ) (p p' : ℕ → ℕ) (u u' : ℕ → Bool) (c low : ℕ)
    (s : Reduced n w v S i p u) (here : S i ≡ true) (li : i < n) (lc : c < 64) (free : u c ≡ false) (one : bit (v i) c ≡ true)
    (lo : Cleared (v i) c low) (eliminated : (j : ℕ) → j < n → v' j ≡ cond (bit (v j) c) (bit_xor (v j) low) (v j))
    (p-here : p' i ≡ c) (p-old : (k : ℕ) → k < i → p' k ≡ p k)
    (u-here : u' c ≡ true) (u-other : (k : ℕ) → (k ≡ c → ⊥) → u' k ≡ u k) where
  -- no member before has the bit c
  not_c : (k : ℕ) → k < i → S k ≡ true → (p k ≡ c → ⊥)
  not_c k l h e = both_ways (u c) free (ap u (sym e) ∙ s.used k l h)

  unit_here : (x : ℕ) → x < 64 → bit (v' i) x ≡ eqb x c
  unit_here x l =
      ap (λ (y : ℕ). bit y x) (eliminated i li) ∙ bit_eliminated (bit (v i) c) (v i) low x
      ∙ ap (λ (b : Bool). differ (bit (v i) x) (b && bit low x)) one ∙ ap (differ (bit (v i) x)) (lo x l)
      ∙ elim (cases_eq x c) [
        | inl e ↦ ap₂ (λ (a b : Bool). differ a (not b && bit (v i) x)) (ap (bit (v i)) e ∙ one) (eq-eqb x c e) ∙ sym (eq-eqb x c e)
        | inr e ↦ ap (λ (b : Bool). differ (bit (v i) x) (not b && bit (v i) x)) (ne_eqb x c e) ∙ differ_self (bit (v i) x) ∙ sym (ne_eqb x c e)
      ]

  kept : (k : ℕ) → k < i → S k ≡ true → v' k ≡ v k
  kept k l h =
      eliminated k (omega arith)
      ∙ cond-false {A = ℕ} (bit (v k) c) (bit_xor (v k) low) (v k) (s.units k l h c lc ∙ ne_eqb c (p k) (λ e. not_c k l h (sym e)))

  pub reduced_more : Reduced n w v' S (i + 1) p' u'
  reduced_more = record {
    equivalent = equivalent_more n w v v' s.equivalent (eliminated_equivalent n v v' c low lc (lo c lc ∙ ap (λ (b : Bool). not b && bit (v i) c) (eq-eqb c c refl)) eliminated);
    below = λ k l h. elim (last_or k i l) [
      | inl e ↦ let a : p' k ≡ c = ap p' e ∙ p-here in omega arith
      | inr m ↦ let a = p-old k m in let b = s.below k m h in omega arith
    ];
    units = λ k l h x b. elim (last_or k i l) [
      | inl e ↦ ap (λ (y : ℕ). bit (v' y) x) e ∙ unit_here x b ∙ ap (eqb x) (sym p-here ∙ ap p' (sym e))
      | inr m ↦ ap (λ (y : ℕ). bit y x) (kept k m h) ∙ s.units k m h x b ∙ ap (eqb x) (sym (p-old k m))
    ];
    used = λ k l h. elim (last_or k i l) [
      | inl e ↦ ap u' (ap p' e ∙ p-here) ∙ u-here
      | inr m ↦ ap u' (p-old k m) ∙ u-other (p k) (not_c k m h) ∙ s.used k m h
    ];
    pivot = λ x b o. elim (cases_eq x c) [
      | inl e ↦ (i, omega arith, here, p-here ∙ sym e)
      | inr e ↦ let (k, a, h, q) = s.pivot x b (sym (u-other x e) ∙ o) in (k, omega arith, h, p-old k a ∙ q)
    ];
    apart = λ j k l m g h q. elim (last_or j i l) [
      | inl e ↦ elim (last_or k i m) [
        | inl f ↦ e ∙ sym f
        | inr f ↦ absurd (not_c k f h (sym (p-old k f) ∙ sym q ∙ ap p' e ∙ p-here))
      ]
      | inr e ↦ elim (last_or k i m) [
        | inl f ↦ absurd (not_c j e g (sym (p-old j e) ∙ q ∙ ap p' f ∙ p-here))
        | inr f ↦ s.apart j k e f g h (sym (p-old j e) ∙ q ∙ p-old k f)
      ]
    ];
  }
