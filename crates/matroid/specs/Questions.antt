-- What a matroid answers when it is asked which circuit an element closes over a set. Assumes nothing.
--     marked marks               the set that the marks show
--     shown C marks              the marks, the first of them as in C
--     admitted n set e marks     the marks of the set, or why the question is refused whatever is independent
--     questioned m set e marks   the answer, and the marks for the result after it
use Rattle.std.specs.Prelude.{ℕ, suc, Bool, false, cond, ◌&&◌, ◌||◌, List, [], ◌∷◌, length, take, Option, Some, None, Ok, Err, Result, nat_le, nat_lt, slice_index_or}
use Rattle.element.specs.Marks.{all_marks}
use Rattle.fault.specs.Refusals.{Refusal, refused}
use Rattle.matroid.specs.declared.Closing.{Closing}
use Rattle.matroid.specs.declared.Closing.TheVariants.{Independent, Circuit}
use Rattle.matroid.specs.Sets.{Elements, with, lowest}
use Rattle.matroid.specs.Matroids.{Meaning}
use Rattle.matroid.specs.Circuits.{circuit}

-- the set that the marks show
abbrev pub marked : List Bool → Elements
marked marks i = slice_index_or marks i false

-- the marks, of which the first stands at k: those that stand for a set are as in C, and the others as they were
abbrev pub shown_from : ℕ → Elements → List Bool → List Bool
shown_from k C [] = []
shown_from k C (x ∷ xs) = cond (nat_lt k all_marks) (C k) x ∷ shown_from (suc k) C xs

-- the marks from the first on
abbrev pub shown : Elements → List Bool → List Bool
shown C marks = shown_from 0 C marks

-- the lowest mark at or above n, or the number of marks where there is none
abbrev pub lowest_mark : ℕ → List Bool → ℕ
lowest_mark n marks = lowest (length marks) (λ i. nat_le n i && marked marks i)

-- that mark, if there is one
abbrev pub next_mark : ℕ → List Bool → Option ℕ
next_mark n marks = cond (nat_lt (lowest_mark n marks) (length marks)) (Some (lowest_mark n marks)) None

-- the members, all below n and without e, or the lowest that is not, or e
abbrev pub apart : ℕ → ℕ → List Bool → Result (List Bool) Refusal
apart n e members =
    cond (nat_lt (lowest_mark n members) (length members)) (Err (refused 8 (lowest_mark n members) 0))
    (cond (marked members e) (Err (refused 15 e 0)) (Ok members))

-- the marks that stand for the set, or why there is no answer whatever is independent
abbrev pub admitted : ℕ → List Bool → ℕ → List Bool → Result (List Bool) Refusal
admitted n set e marks =
    cond (nat_lt (length set) all_marks || nat_lt (length marks) all_marks) (Err (refused 14 0 0))
    (cond (nat_le n e) (Err (refused 8 e 0)) (apart n e (take all_marks set)))

-- an answer, and the marks for the result after it
pub record Reply : Type 0 where
  pub answer : Result Closing Refusal
  pub marks : List Bool

-- a refusal leaves the marks
abbrev pub declined : Refusal → List Bool → Reply
declined f marks = record { answer = Err f; marks = marks }

-- of an independent S: whether it is independent with e too, and else the circuit
abbrev pub closing : Meaning → Elements → ℕ → List Bool → Reply
closing m S e marks =
    cond (m.independent (with S e))
    (record { answer = Ok Independent; marks = marks })
    (record { answer = Ok Circuit; marks = shown (circuit m S e) marks })

-- the reply where the question is admitted, with the marks of the set, or not
abbrev pub replied : Meaning → ℕ → List Bool → Result (List Bool) Refusal → Reply
replied m e marks (Err f) = declined f marks
replied m e marks (Ok members) = cond (m.independent (marked members)) (closing m (marked members) e marks) (declined (refused 16 0 0) marks)

-- what m replies when it is asked which circuit e closes over the set
abbrev pub questioned : Meaning → List Bool → ℕ → List Bool → Reply
questioned m set e marks = replied m e marks (admitted m.size set e marks)
