-- What follows from a verdict and from an answer.
use Rattle.std.proofs.Common.{◌≡◌, ℕ, Bool, true, false, cond, not, ◌&&◌, Some, None, Ok, Err, Option, refl, arith}
use Rattle.fault.specs.Refusals.{Refusal}
use Rattle.source.specs.Supplies.{Supply, Cause, Verdict, refused, given, of_price, verdict, spoken, exhausted}

-- sources are the same if their parts are
pub same_supply : {σ τ : Supply} → σ.price ≡ τ.price → σ.allowance ≡ τ.allowance → σ.free ≡ τ.free → σ.depth ≡ τ.depth → σ ≡ τ
same_supply p a f d = λ i. record { price = p i; allowance = a i; free = f i; depth = d i }

-- a price comes of a verdict that gives it
pub given_from : (v : Verdict) (d e p : ℕ) → Ok p ≡ spoken v d e → v ≡ given p
given_from (refused c) d e p is = let z : ◌≡◌ {A = ℕ} 0 1 = cc in absurd (omega arith)
given_from (given q) d e p is = cc

-- a refusal comes of a verdict that refuses
pub refused_from : (v : Verdict) (d e : ℕ) (r : Refusal) → Err r ≡ spoken v d e → (c : Cause) × (v ≡ refused c)
refused_from (refused c) d e r is = (c, refl)
refused_from (given q) d e r is = let z : ◌≡◌ {A = ℕ} 0 1 = cc in absurd (omega arith)

of_price_given : (o : Option ℕ) (p : ℕ) → of_price o ≡ given p → o ≡ Some p
of_price_given (Some q) p is = cc
of_price_given None p is = let z : ◌≡◌ {A = ℕ} 0 1 = cc in absurd (omega arith)

by_price : (b : Bool) (o : Option ℕ) (c : Cause) (p : ℕ) → cond b (refused c) (of_price o) ≡ given p → o ≡ Some p
by_price true o c p is = let z : ◌≡◌ {A = ℕ} 0 1 = cc in absurd (omega arith)
by_price false o c p is = of_price_given o p is

-- what is given is the price
pub price_given : (σ : Supply) (e p : ℕ) → verdict σ e ≡ given p → σ.price e ≡ Some p
price_given σ e p is = by_price (not (σ.free e) && exhausted σ.allowance) (σ.price e) _ p is
