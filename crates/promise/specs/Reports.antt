-- What a report says to whoever asked for it. Assumes nothing.
use Rattle.std.specs.Prelude.{◌≡◌, ℕ, ◌≤◌, Bool, List, length, Ok, Result}
use Rattle.element.specs.Marks.{all_marks}
use Rattle.entry.specs.Entries.{Entry, Proper}
use Rattle.fault.specs.Refusals.{Refusal}
use Rattle.matroid.specs.Sets.{Elements, cut}
use Rattle.matroid.specs.Matroids.{Meaning}
use Rattle.matroid.specs.Questions.{marked}
use Rattle.promise.specs.Surveys.{State, fresh}
use Rattle.promise.specs.Calls.{Call, after}
use Rattle.promise.specs.Claims.{AlwaysCheapest, Few}

-- the elements that are marked among the first marks
abbrev pub among : List Bool → Elements
among marks = cut all_marks (marked marks)

-- of the answer r of a report after the calls cs, and the marks after it: a base is shown exactly when one is cheapest under every
-- possible weighing, and such a one is shown
pub record Reported (m : Meaning) (E : ℕ → Entry) (cs : List Call) (r : Result (Unit {0}) Refusal) (marks : List Bool) : Type 0 where
  pub sound : r ≡ Ok tt → AlwaysCheapest m E cs (among marks)
  pub complete : (B : Elements) → AlwaysCheapest m E cs B → all_marks ≤ length marks → r ≡ Ok tt

-- of a report on the survey s, with the answer r and the marks after it: for every sheet and every list of calls that lead from a
-- fresh survey of the sheet to s, what is shown is right, and few prices were paid
pub record Assured (m : Meaning) (E : ℕ → Entry) (cs : List Call) (r : Result (Unit {0}) Refusal) (marks : List Bool) : Type 0 where
  pub reported : Reported m E cs r marks
  pub few : Few m E cs

abbrev pub Assures : Meaning → State → Result (Unit {0}) Refusal → List Bool → Type 0
Assures m s r marks = (E : ℕ → Entry) → ((i : ℕ) → Proper (E i)) → (cs : List Call) → s ≡ after m (fresh E) cs → Assured m E cs r marks
