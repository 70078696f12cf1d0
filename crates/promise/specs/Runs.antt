-- How runs end. Assumes nothing.
use Rattle.std.specs.Prelude.{◌≡◌, ℕ, ◌<◌, true, false, List, Some, None, ◌≢◌}
use Rattle.matroid.specs.Sets.{Elements}
use Rattle.matroid.specs.Matroids.{Meaning}
use Rattle.matroid.specs.Bases.{Base}
use Rattle.entry.specs.Entries.{Entry, Proper, known, inside}
use Rattle.promise.specs.Surveys.{Source, State, fresh, Outcome, finished, paid, run, report}
use Rattle.promise.specs.Calls.{Call, after}

-- the answer is no price
abbrev pub Unpaid : Outcome → Type 0
Unpaid o = (e p : ℕ) → o.answer ≢ paid e p

-- a source with no limit, and a price strictly inside each range of E
pub record Stocked (m : Meaning) (E : ℕ → Entry) (σ : Source) : Type 0 where
  pub unlimited : σ.supply.allowance ≡ None
  pub has : (e : ℕ) → e < m.size → known (E e) ≡ false → (p : ℕ) × (σ.supply.price e ≡ Some p) × (inside (E e) p ≡ true)

-- finished, with a base to show
abbrev pub Done : Meaning → Outcome → Type 0
Done m o = (o.answer ≡ finished) × ((B : Elements) × (report m o.survey ≡ Some B) × Base m B)

-- from a survey that calls led to from a fresh survey of a sheet, a run with such a source comes to a base
abbrev pub Progresses : Meaning → State → Source → Type 0
Progresses m s σ = (E : ℕ → Entry) → ((i : ℕ) → Proper (E i)) → (cs : List Call) → s ≡ after m (fresh E) cs → Stocked m E σ → Done m (run m s σ)
