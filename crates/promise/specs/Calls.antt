-- Lists of calls on a survey, the notes that they make, and the first prices that they pay. Assumes nothing.
use Rattle.std.specs.Prelude.{ℕ, zero, suc, ◌+◌, Bool, cond, List, [], ◌∷◌, ◌++◌, Some, None, Option}
use Rattle.matroid.specs.Matroids.{Meaning}
use Rattle.element.specs.declared.Line.{Line}
use Rattle.promise.specs.Weighings.{Weighing, FitsSheet, Agrees, Each}
use Rattle.promise.specs.Surveys.{Source, State, fresh, line, due, Answer, finished, paid, outside, declined, step, run, note, notable}
use Rattle.entry.specs.Entries.{Entry}

-- a call on a survey, with what it is given
pub data Call : Type 0 where
  step_with : Source → Call
  run_with : Source → Call
  note_of : ℕ → ℕ → Call
  report_into : List Bool → Call

-- the survey after one call, accepted or refused
abbrev pub did : Meaning → State → Call → State
did m s (step_with σ) = (step m s σ).survey
did m s (run_with σ) = (run m s σ).survey
did m s (note_of e p) = note m s e p
did m s (report_into marks) = s

-- the survey after the calls
abbrev pub after : Meaning → State → List Call → State
after m s [] = s
after m s (c ∷ cs) = after m (did m s c) cs

-- the note that a call makes, if it is an accepted one
abbrev pub noted : Meaning → State → Call → List Line
noted m s (step_with σ) = []
noted m s (run_with σ) = []
noted m s (note_of e p) = cond (notable m s e p) (line e p ∷ []) []
noted m s (report_into marks) = []

-- the notes that the calls make
abbrev pub notes : Meaning → State → List Call → List Line
notes m s [] = []
notes m s (c ∷ cs) = noted m s c ++ notes m (did m s c) cs

-- 1 where nothing is due, so that a price is the first of a pair, and 0 where it is the second
abbrev pub first : Option ℕ → ℕ
first (Some e) = 0
first None = 1

-- how many first prices an answer tells of, where d was due: the price of a topmost member, and not that of the pending one
abbrev pub told : Option ℕ → Answer → ℕ
told d finished = 0
told d (paid e p) = first d
told d (outside e) = 0
told d (declined e c) = 0

-- the first prices that a step pays
abbrev pub step_firsts : Meaning → State → Source → ℕ
step_firsts m s σ = told (due s) (step m s σ).answer

-- those that the steps of a run pay
abbrev pub run_firsts : ℕ → Meaning → State → Source → ℕ
run_firsts zero m s σ = step_firsts m s σ
run_firsts (suc k) m s σ =
    step_firsts m s σ
    + elim (step m s σ).answer [
      | finished ↦ 0
      | paid e p ↦ run_firsts k m (step m s σ).survey (step m s σ).source
      | outside e ↦ 0
      | declined e c ↦ 0
    ]

-- those that a call pays
abbrev pub call_firsts : Meaning → State → Call → ℕ
call_firsts m s (step_with σ) = step_firsts m s σ
call_firsts m s (run_with σ) = run_firsts (suc m.size) m s σ
call_firsts m s (note_of e p) = 0
call_firsts m s (report_into marks) = 0

-- those that the calls pay
abbrev pub firsts : Meaning → State → List Call → ℕ
firsts m s [] = 0
firsts m s (c ∷ cs) = call_firsts m s c + firsts m (did m s c) cs

-- a weighing that fits the sheet and agrees with the ledger and the notes
pub record Possible (m : Meaning) (E : ℕ → Entry) (cs : List Call) (w : Weighing) : Type 0 where
  pub fits : FitsSheet m.size E w
  pub ledger : Each (Agrees w) (after m (fresh E) cs).ledger
  pub notes_agree : Each (Agrees w) (notes m (fresh E) cs)
