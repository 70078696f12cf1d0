-- Prices alone make a sound source. Assumes nothing.
use Rattle.std.specs.Prelude.{ℕ, Option}
use Rattle.std.proofs.Common.{lit≤}
use Rattle.std.proofs.lemmas.Bool.{false≢true}
use Rattle.source.specs.Supplies.{Sound, plain}

-- its refusals come from itself
pub plain_sound : (prices : ℕ → Option ℕ) → Sound (plain prices) (λ e. 0)
plain_sound prices = record {
  priced = λ e h. absurd (false≢true h);
  shallow = lit≤ tt;
  within = λ e. lit≤ tt;
}
