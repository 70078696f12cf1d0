-- A survey, and what each call makes of it. Assumes nothing.
use Rattle.std.specs.Prelude.{ℕ, zero, suc, Bool, cond, ◌&&◌, List, [], ◌∷◌, ◌++◌, Some, None, Option, ◌==◌, nat_lt}
use Rattle.matroid.specs.Sets.{Elements}
use Rattle.matroid.specs.Matroids.{Meaning}
use Rattle.element.specs.declared.Line.{Line}
use Rattle.promise.specs.Walks.{settled, open_at, walk, topmost, rival}
use Rattle.source.specs.Supplies.{Supply, Cause, Verdict, refused, given, verdict, charged}
use Rattle.entry.specs.Entries.{Entry, Known, known, inside}

-- a source as a survey meets it: what it means, and which elements a price makes free from then on
pub record Source : Type 0 where
  pub supply : Supply
  pub keeps : ℕ → Bool

-- the source after a price for e
abbrev pub after_price : Source → ℕ → Source
after_price σ e = record { supply = charged σ.supply (σ.keeps e) e; keeps = σ.keeps }

-- the entries now, the prices paid in their order, and the element to be priced next where one is pending
pub record State : Type 0 where
  pub entries : ℕ → Entry
  pub ledger : List Line
  pub pending : Option ℕ

-- a survey of the sheet E, before any call
abbrev pub fresh : (ℕ → Entry) → State
fresh E = record { entries = E; ledger = []; pending = None }

-- the entries with e known at p
abbrev pub priced : (ℕ → Entry) → ℕ → ℕ → ℕ → Entry
priced E e p i = cond (i == e) (Known p) (E i)

-- the line of the price p for e
abbrev pub line : ℕ → ℕ → Line
line e p = record { element = e; price = p }

-- the pending element, where its entry is still a range
abbrev pub due : State → Option ℕ
due s = elim s.pending [ Some e ↦ cond (known (s.entries e)) None (Some e) | None ↦ None ]

-- what the next step does: nothing, or one price call, after which an element may be pending
pub data Plan : Type 0 where
  rest : Elements → Plan
  ask : ℕ → Option ℕ → Plan

-- at the open circuit C: the topmost member, with its rival pending unless that is known
abbrev pub choose : ℕ → (ℕ → Entry) → Elements → Plan
choose n E C =
    let f : ℕ = topmost n E C in
    let g : ℕ = rival n E C f in
    ask f (cond (known (E g)) None (Some g))

-- the plan of a survey: rest where the walk is settled, else the due element, else a choice
abbrev pub next : Meaning → State → Plan
next m s =
    elim (walk m s.entries) [
      | settled K ↦ rest K
      | open_at C ↦ elim (due s) [ Some e ↦ ask e None | None ↦ choose m.size s.entries C ]
    ]

-- what a step answers: no price is needed, a price was paid, the price lay outside the range, or the source refused
pub data Answer : Type 0 where
  finished : Answer
  paid : ℕ → ℕ → Answer
  outside : ℕ → Answer
  declined : ℕ → Cause → Answer

-- an answer, and the survey and the source afterwards
pub record Outcome : Type 0 where
  pub answer : Answer
  pub survey : State
  pub source : Source

-- the survey with e paid at p and q pending
abbrev pub paid_for : State → ℕ → ℕ → Option ℕ → State
paid_for s e p q = record { entries = priced s.entries e p; ledger = s.ledger ++ (line e p ∷ []); pending = q }

-- a price call for e, with q pending after it, by what the source said: only a price inside the range changes the survey
abbrev pub tried : State → Source → ℕ → Option ℕ → Verdict → Outcome
tried s σ e q (refused c) = record { answer = declined e c; survey = s; source = σ }
tried s σ e q (given p) =
    cond (inside (s.entries e) p)
    (record { answer = paid e p; survey = paid_for s e p q; source = after_price σ e })
    (record { answer = outside e; survey = s; source = after_price σ e })

-- nothing is done
abbrev pub rested : State → Source → Outcome
rested s σ = record { answer = finished; survey = s; source = σ }

-- one step, with a source
abbrev pub step : Meaning → State → Source → Outcome
step m s σ = elim (next m s) [ rest K ↦ rested s σ | ask e q ↦ tried s σ e q (verdict σ.supply e) ]

-- steps until one is not paid, at most k of them before the last
abbrev pub steps : ℕ → Meaning → State → Source → Outcome
steps zero m s σ = step m s σ
steps (suc k) m s σ =
    let o : Outcome = step m s σ in
    elim o.answer [
      | finished ↦ o
      | paid e p ↦ steps k m o.survey o.source
      | outside e ↦ o
      | declined e c ↦ o
    ]

-- a run: steps until one is not paid. No more can be paid: each makes an element known, and one may stand outside the matroid
abbrev pub run : Meaning → State → Source → Outcome
run m s σ = steps (suc m.size) m s σ

-- whether a note that e costs p is accepted
abbrev pub notable : Meaning → State → ℕ → ℕ → Bool
notable m s e p = nat_lt e m.size && inside (s.entries e) p

-- the survey with e known at p: a price that was not paid for
abbrev pub noted_at : State → ℕ → ℕ → State
noted_at s e p = record { entries = priced s.entries e p; ledger = s.ledger; pending = s.pending }

-- the survey after a note that e costs p
abbrev pub note : Meaning → State → ℕ → ℕ → State
note m s e p = cond (notable m s e p) (noted_at s e p) s

-- the base that a report shows
abbrev pub report : Meaning → State → Option Elements
report m s = elim (walk m s.entries) [ settled K ↦ Some K | open_at C ↦ None ]
