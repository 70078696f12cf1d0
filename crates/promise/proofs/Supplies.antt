-- What a survey has to know of a source: nothing here or above it turns on the cause of a refusal.
use Rattle.std.proofs.Common.{◌≡◌, ℕ, Bool, not, ◌&&◌, Some, None, Option, ap, ◌∙◌, inl, inr, arith}
use Rattle.std.proofs.lemmas.Bool.{cases_Bool, cond-true, cond-false, cond_both, and_right}
use Rattle.source.specs.Supplies.{Supply, refused, spent, given, verdict, charged, of_price, exhausted, lowered}

of_given : (o : Option ℕ) (p : ℕ) → of_price o ≡ given p → o ≡ Some p
of_given (Some q) p h = cc
of_given None p h = let z : ◌≡◌ {A = ℕ} 0 1 = cc in absurd (omega arith)

-- a price that is given is the source's
pub given_price : (σ : Supply) (e p : ℕ) → verdict σ e ≡ given p → σ.price e ≡ Some p
given_price σ e p h =
    let b : Bool = not (σ.free e) && exhausted σ.allowance in
    elim (cases_Bool b) [
      | inl k ↦ let q = cond-true b (refused spent) (of_price (σ.price e)) k in let z : ◌≡◌ {A = ℕ} 0 1 = cc in absurd (omega arith)
      | inr k ↦ let q = cond-false b (refused spent) (of_price (σ.price e)) k in of_given (σ.price e) p (cc)
    ]

-- without a limit, each price is given
pub unlimited_gives : (σ : Supply) (e p : ℕ) → σ.allowance ≡ None → σ.price e ≡ Some p → verdict σ e ≡ given p
unlimited_gives σ e p h q =
    cond-false (not (σ.free e) && exhausted σ.allowance) (refused spent) (of_price (σ.price e)) (and_right (not (σ.free e)) (exhausted σ.allowance) (ap exhausted h))
    ∙ ap of_price q

-- a price leaves what is unlimited so
pub charged_unlimited : (σ : Supply) (k : Bool) (e : ℕ) → σ.allowance ≡ None → (charged σ k e).allowance ≡ None
charged_unlimited σ k e h = cond_both (σ.free e) σ.allowance (lowered σ.allowance) (λ a. a ≡ None) (λ t. h) (λ t. ap lowered h)
