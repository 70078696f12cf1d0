-- What a price source means, and what a price call does. Assumes nothing.
--     answered σ d e   what a price call for e answers, where a refusal comes from the depth d
--     after σ k e      the source after it, where k says whether a price for e makes e free
use Rattle.std.specs.Prelude.{◌≡◌, ℕ, ◌+◌, ◌-◌, ◌≤◌, min, Bool, true, false, cond, not, ◌&&◌, ◌||◌, is_some, Some, None, Ok, Err, Option, Result, ◌==◌}
use Rattle.fault.specs.Refusals.{Refusal, refused as refusal_of}

-- the prices, how many more may be asked for (None: unlimited), the elements that cost nothing of that, and the depth
pub record Supply : Type 0 where
  pub price : ℕ → Option ℕ
  pub allowance : Option ℕ
  pub free : ℕ → Bool
  pub depth : ℕ

-- the largest depth
abbrev pub deepest : ℕ
deepest = 255

-- one more than the depth d, and never above the largest
abbrev pub deeper : ℕ → ℕ
deeper d = min (d + 1) deepest

-- what holds of every source whose refusal for e comes from the depth `origin e`:
-- each free element has a price, no depth is above the largest, and no refusal comes from above the source
pub record Sound (σ : Supply) (origin : ℕ → ℕ) : Type 0 where
  pub priced : (e : ℕ) → σ.free e ≡ true → is_some (σ.price e) ≡ true
  pub shallow : σ.depth ≤ deepest
  pub within : (e : ℕ) → origin e ≤ σ.depth

-- whether nothing is left of an allowance
abbrev pub exhausted : Option ℕ → Bool
exhausted (Some k) = k == 0
exhausted None = false

-- why a source refuses: its allowance is spent, or it lacks a price
pub data Cause : Type 0 where
  spent : Cause
  lacking : Cause

-- what a source decides for an element
pub data Verdict : Type 0 where
  refused : Cause → Verdict
  given : ℕ → Verdict

-- what is decided by the price alone
abbrev pub of_price : Option ℕ → Verdict
of_price (Some p) = given p
of_price None = refused lacking

-- a spent allowance refuses whatever is not free; else the price is given, if there is one
abbrev pub verdict : Supply → ℕ → Verdict
verdict σ e = cond (not (σ.free e) && exhausted σ.allowance) (refused spent) (of_price (σ.price e))

-- the number of the refusal for a cause
abbrev pub refusal_number : Cause → ℕ
refusal_number spent = 12
refusal_number lacking = 11

-- a verdict for e as an answer: a refusal is about e, and comes from the depth d
abbrev pub spoken : Verdict → ℕ → ℕ → Result ℕ Refusal
spoken (refused c) d e = Err (refusal_of (refusal_number c) e d)
spoken (given p) d e = Ok p

-- what a price call for e answers, where a refusal comes from the depth d
abbrev pub answered : Supply → ℕ → ℕ → Result ℕ Refusal
answered σ d e = spoken (verdict σ e) d e

-- an allowance less one
abbrev pub lowered : Option ℕ → Option ℕ
lowered (Some k) = Some (k - 1)
lowered None = None

-- the free elements F, and e too if k
abbrev pub freed : Bool → (ℕ → Bool) → ℕ → ℕ → Bool
freed k F e i = F i || (k && i == e)

-- the source after a price for e: one less is left unless e was free, and e is free from then on if k
abbrev pub charged : Supply → Bool → ℕ → Supply
charged σ k e = record {
  price = σ.price;
  allowance = cond (σ.free e) σ.allowance (lowered σ.allowance);
  free = freed k σ.free e;
  depth = σ.depth;
}

-- the source after a verdict for e: a refusal changes nothing
abbrev pub left_by : Verdict → Supply → Bool → ℕ → Supply
left_by (refused c) σ k e = σ
left_by (given p) σ k e = charged σ k e

-- the source after a price call for e, where k says whether a price for e makes e free
abbrev pub after : Supply → Bool → ℕ → Supply
after σ k e = left_by (verdict σ e) σ k e

-- the prices alone: unlimited, nothing free, and of depth 0
abbrev pub plain : (ℕ → Option ℕ) → Supply
plain prices = record { price = prices; allowance = None; free = λ e. false; depth = 0 }
