-- What a layer over a source means, by what the source below it means. Assumes nothing.
--     remembering σ f   a memory over σ that remembers the prices f
--     limited σ n       a quota of the number n over σ
--     blamed σ o n e    the depth from which its refusal for e comes, o being those of σ
use Rattle.std.specs.Prelude.{ℕ, ◌≤◌, min, Bool, cond, not, ◌&&◌, ◌||◌, List, is_some, Some, None, Option, ◌==◌}
use Rattle.source.specs.Calls.{Call, payments}
use Rattle.source.specs.Supplies.{Supply, deeper}

-- the first price, or else the second
abbrev pub or_else : Option ℕ → Option ℕ → Option ℕ
or_else (Some p) q = Some p
or_else None q = q

-- what is remembered is free, and stands for the price below
abbrev pub remembering : Supply → (ℕ → Option ℕ) → Supply
remembering σ remembered = record {
  price = λ e. or_else (remembered e) (σ.price e);
  allowance = σ.allowance;
  free = λ e. is_some (remembered e) || σ.free e;
  depth = deeper σ.depth;
}

-- the smaller of a number and an allowance
abbrev pub capped : ℕ → Option ℕ → Option ℕ
capped n (Some k) = Some (min n k)
capped n None = Some n

-- no more prices than the number, for what is not free below
abbrev pub limited : Supply → ℕ → Supply
limited σ n = record {
  price = σ.price;
  allowance = capped n σ.allowance;
  free = σ.free;
  depth = deeper σ.depth;
}

-- whether a quota of the number n over σ refuses e itself
abbrev pub closed : Supply → ℕ → ℕ → Bool
closed σ n e = not (σ.free e) && n == 0

-- a quota's refusal comes from the quota itself, or from where it comes below
abbrev pub blamed : Supply → (ℕ → ℕ) → ℕ → ℕ → ℕ
blamed σ origin n e = cond (closed σ n e) (deeper σ.depth) (origin e)

-- whatever the calls, a quota of the number n pays for no more than n prices
abbrev pub Bounded : Supply → ℕ → Type 0
Bounded σ n = (cs : List Call) → payments (limited σ n) cs ≤ n
