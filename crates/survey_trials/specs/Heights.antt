-- A source at the largest depth, with one price for all. Assumes nothing.
use Rattle.std.specs.Prelude.{ℕ, false, Some, None}
use Rattle.std.proofs.Common.{lit≤}
use Rattle.std.proofs.lemmas.Bool.{false≢true}
use Rattle.source.specs.Supplies.{Supply, Sound, deepest}

-- the price p for every element, unlimited, nothing free
abbrev pub uniform : ℕ → Supply
uniform p = record { price = λ e. Some p; allowance = None; free = λ e. false; depth = deepest }

-- it refuses nothing
pub uniform_sound : (p : ℕ) → Sound (uniform p) (λ e. 0)
uniform_sound p = record { priced = λ e h. absurd (false≢true h); shallow = lit≤ tt; within = λ e. lit≤ tt }
