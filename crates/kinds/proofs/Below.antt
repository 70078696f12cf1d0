-- Tests of every number below n.
use Rattle.std.proofs.Common.{◌≡◌, ℕ, zero, suc, ◌<◌, Bool, true, false, ◌&&◌, sym, refl, ap₂, inl, inr, arith}
use Rattle.std.proofs.lemmas.Bool.{cases_eq}
use Rattle.matroid.specs.Sets.{every}

pub at_last : (P : ℕ → Type 0) (n : ℕ) → P n → ((i : ℕ) → i < n → P i) → (i : ℕ) → i < suc n → P i
at_last P n here below i l = elim (cases_eq n i) [ inl e ↦ rw (← e) here | inr e ↦ below i (omega arith) ]

pub every_same : (n : ℕ) (p q : ℕ → Bool) → ((i : ℕ) → i < n → p i ≡ q i) → every n p ≡ every n q
every_same zero p q h = refl
every_same (suc n) p q h = ap₂ ◌&&◌ (h n (omega arith)) (every_same n p q (λ i l. h i (omega arith)))

pub same_tests : (a b : Bool) → (a ≡ true → b ≡ true) → (b ≡ true → a ≡ true) → a ≡ b
same_tests true b h g = sym (h refl)
same_tests false true h g = g refl
same_tests false false h g = refl
