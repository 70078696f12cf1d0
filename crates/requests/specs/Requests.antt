-- Requests as calls on a survey. Assumes nothing.
--     call_of m k q          the call that the request q is, where m and k say what its source means and keeps
--     calls_of m k qs        those of a list
--     reply_to m k o n s q r the answer to q on the survey s, where r is q afterwards and o says whence a refusal comes
use Rattle.std.specs.Prelude.{◌≡◌, ℕ, suc, Bool, List, map, length, take, Some, Ok, Result}
use Rattle.std.specs.List.{slice_get}
use Rattle.fault.specs.Refusals.{Refusal}
use Rattle.matroid.specs.Matroids.{Meaning}
use Rattle.source.specs.Supplies.{Supply}
use Rattle.promise.specs.Surveys.{State, step, run}
use Rattle.promise.specs.Calls.{Call, step_with, run_with, note_of, report_into, after}
use Rattle.promise.specs.Replies.{step_reply, unlined, run_reply, note_reply, report_reply}
use Rattle.survey.specs.States.{sourced}
use Rattle.requests.specs.declared.carrying.Request.{Request}
use Rattle.requests.specs.declared.carrying.Request.TheVariants.{Step, Run, Note, Report}

-- a request as a call
abbrev pub call_of : {X : Type 0} → (X → Supply) → (X → ℕ → Bool) → Request X → Call
call_of meaning keeps (Step x) = step_with (sourced meaning keeps x)
call_of meaning keeps (Run x) = run_with (sourced meaning keeps x)
call_of meaning keeps (Note e p) = note_of e p
call_of meaning keeps (Report marks) = report_into marks

-- the depths from which the refusals of a request's source come
abbrev pub origins : {X : Type 0} → (X → ℕ → ℕ) → Request X → ℕ → ℕ
origins origin (Step x) = origin x
origins origin (Run x) = origin x
origins origin (Note e p) = λ i. 0
origins origin (Report marks) = λ i. 0

-- the answer to a request
abbrev pub reply_to : {X : Type 0} → (X → Supply) → (X → ℕ → Bool) → (X → ℕ → ℕ) → Meaning → State → Request X → Request X → Result (Unit {0}) Refusal
reply_to meaning keeps origin m s (Step x) after = unlined (step_reply (meaning x).depth (origins origin after) (step m s (sourced meaning keeps x)).answer)
reply_to meaning keeps origin m s (Run x) after = run_reply (meaning x).depth (origins origin after) (run m s (sourced meaning keeps x)).answer
reply_to meaning keeps origin m s (Note e p) after = note_reply m s e p
reply_to meaning keeps origin m s (Report marks) after = (report_reply m s marks).answer

-- requests as calls
abbrev pub calls_of : {X : Type 0} → (X → Supply) → (X → ℕ → Bool) → List (Request X) → List Call
calls_of meaning keeps qs = map (call_of meaning keeps) qs

-- r is the answer to the last of the requests qs on the survey s, where rs are the requests afterwards; it is none to no request
pub record LastReply {X : Type 0} (meaning : X → Supply) (keeps : X → ℕ → Bool) (origin : X → ℕ → ℕ) (m : Meaning) (s : State) (qs rs : List (Request X)) (r : Result (Unit {0}) Refusal) : Type 0 where
  pub none : length qs ≡ 0 → r ≡ Ok tt
  pub last : (k : ℕ) (q q' : Request X) → length qs ≡ suc k → slice_get qs k ≡ Some q → slice_get rs k ≡ Some q'
      → r ≡ reply_to meaning keeps origin m (after m s (calls_of meaning keeps (take k qs))) q q'
