-- What the calls answer, by numbers, places and depths. Assumes nothing.
use Rattle.std.specs.Prelude.{ℕ, Bool, cond, List, [], ◌∷◌, length, Some, None, Ok, Err, Option, Result, nat_le, nat_lt}
use Rattle.element.specs.Marks.{all_marks}
use Rattle.element.specs.declared.Line.{Line}
use Rattle.fault.specs.Refusals.{Refusal, refused}
use Rattle.entry.specs.Entries.{known, inside}
use Rattle.matroid.specs.Sets.{Elements, cut}
use Rattle.matroid.specs.Matroids.{Meaning}
use Rattle.matroid.specs.Questions.{shown}
use Rattle.source.specs.Supplies.{deeper, refusal_number}
use Rattle.promise.specs.Surveys.{State, line, Answer, finished, paid, outside, declined, step, run, report}
use Rattle.promise.specs.Calls.{Call, step_with, run_with, note_of, report_into, did}

-- a step's answer: none where it is finished, or the line that it paid; or the refusal. A price outside the range is refused from
-- one above the source, and a refusal of the source comes from the depth that it declares for the element
abbrev pub step_reply : ℕ → (ℕ → ℕ) → Answer → Result (Option Line) Refusal
step_reply depth origin finished = Ok None
step_reply depth origin (paid e p) = Ok (Some (line e p))
step_reply depth origin (outside e) = Err (refused 10 e (deeper depth))
step_reply depth origin (declined e c) = Err (refused (refusal_number c) e (origin e))

-- a run's answer is that of its last step, of which nothing is left to say where it is no refusal
abbrev pub unlined : Result (Option Line) Refusal → Result (Unit {0}) Refusal
unlined (Ok o) = Ok tt
unlined (Err f) = Err f

abbrev pub run_reply : ℕ → (ℕ → ℕ) → Answer → Result (Unit {0}) Refusal
run_reply depth origin a = unlined (step_reply depth origin a)

-- a note's answer: no such element, or its entry is known, or the price is not strictly inside its range
abbrev pub note_reply : Meaning → State → ℕ → ℕ → Result (Unit {0}) Refusal
note_reply m s e p =
    cond (nat_le m.size e) (Err (refused 8 e 0))
    (cond (known (s.entries e)) (Err (refused 9 e 0))
    (cond (inside (s.entries e) p) (Ok tt) (Err (refused 10 e 0))))

-- an answer, and the marks after it
pub record Reply : Type 0 where
  pub answer : Result (Unit {0}) Refusal
  pub marks : List Bool

-- the elements below n that are shown, or no base is settled
abbrev pub showing : ℕ → Option Elements → List Bool → Reply
showing n (Some K) marks = record { answer = Ok tt; marks = shown (cut n K) marks }
showing n None marks = record { answer = Err (refused 13 0 0); marks = marks }

-- a report's answer: too few marks, or no base is settled, or the base that it shows
abbrev pub report_reply : Meaning → State → List Bool → Reply
report_reply m s marks =
    cond (nat_lt (length marks) all_marks) (record { answer = Err (refused 14 0 0); marks = marks }) (showing m.size (report m s) marks)

-- the reply to a run and then a report, of which the report is made only where the run is not refused
abbrev pub followed : Result (Unit {0}) Refusal → List Bool → Reply → Reply
followed (Err f) marks r = record { answer = Err f; marks = marks }
followed (Ok u) marks r = r

-- a call's own sources and marks after it
abbrev pub spent_call : Meaning → State → Call → Call
spent_call m s (step_with σ) = step_with (step m s σ).source
spent_call m s (run_with σ) = run_with (run m s σ).source
spent_call m s (note_of e p) = note_of e p
spent_call m s (report_into marks) = report_into (report_reply m s marks).marks

-- those of each of the calls, one after the other
abbrev pub spent_calls : Meaning → State → List Call → List Call
spent_calls m s [] = []
spent_calls m s (c ∷ cs) = spent_call m s c ∷ spent_calls m (did m s c) cs
