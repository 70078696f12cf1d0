-- What is promised of a plan. Assumes nothing.
--     Kept bs        the survey of the sheet keeps the whole promise
--     Tells bs       what is printed: a base that is cheapest whatever is still possible, after few prices; or why there is none
use Rattle.std.specs.Prelude.{◌≡◌, ℕ, ◌⊎◌, List, Ok}
use Rattle.fault.specs.Refusals.{Refusal}
use Rattle.matroid.specs.Sets.{Elements}
use Rattle.promise.specs.Surveys.{State, fresh}
use Rattle.promise.specs.Calls.{after}
use Rattle.promise.specs.Claims.{AlwaysCheapest, Few, Promise}
use Rattle.form.specs.Sheets.{Sheet}
use Rattle.form.specs.Reading.{checked}
use Rattle.plan.specs.Plans.{entries_of, matroid_of, names_of, plan_bytes, plan_calls}
use Rattle.plan.specs.Texts.{finished_text, stopped_text}

-- the survey of a sheet that is accepted keeps the whole promise: what is kept is cheapest under every possible weighing, it is
-- shown as soon as there is such a base, and at most twice the prices are paid that any other survey of the sheet needs
abbrev pub Kept : List ℕ → Type 0
Kept bs = (s : Sheet) → checked bs ≡ Ok s → Promise (matroid_of s) (entries_of s) (plan_calls s)

-- the survey of the sheet after its run
abbrev pub surveyed : Sheet → State
surveyed s = after (matroid_of s) (fresh (entries_of s)) (plan_calls s)

-- a finished plan is printed, with the ledger of the survey and the elements of `kept`: these are a base that is cheapest under every
-- possible weighing, and the ledger has at most twice the lines that any other survey of the sheet needs
pub record Finished (bs : List ℕ) (s : Sheet) : Type 0 where
  pub kept : Elements
  pub printed : plan_bytes bs ≡ finished_text (matroid_of s).size (surveyed s) (names_of s) kept
  pub cheapest : AlwaysCheapest (matroid_of s) (entries_of s) (plan_calls s) kept
  pub few : Few (matroid_of s) (entries_of s) (plan_calls s)

-- a stopped plan is printed, with the ledger of the survey
pub record Stopped (bs : List ℕ) (s : Sheet) : Type 0 where
  pub fault : Refusal
  pub printed : plan_bytes bs ≡ stopped_text fault (surveyed s)

-- of a sheet that is accepted one of the two is printed
abbrev pub Tells : List ℕ → Type 0
Tells bs = (s : Sheet) → checked bs ≡ Ok s → Finished bs s ⊎ Stopped bs s
