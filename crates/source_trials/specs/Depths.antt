-- A source that has nothing but a depth. Assumes nothing.
use Rattle.std.specs.Prelude.{ℕ, min, false, None}
use Rattle.std.proofs.Common.{arith}
use Rattle.std.proofs.lemmas.Bool.{false≢true}
use Rattle.source.specs.Supplies.{Supply, Sound, deepest}

-- no prices, unlimited, nothing free, of the depth d
abbrev pub bare : ℕ → Supply
bare d = record { price = λ e. None; allowance = None; free = λ e. false; depth = min d deepest }

-- its refusals come from itself
pub bare_sound : (d : ℕ) → Sound (bare d) (λ e. min d deepest)
bare_sound d = record { priced = λ e h. absurd (false≢true h); shallow = omega arith; within = λ e. omega arith }
