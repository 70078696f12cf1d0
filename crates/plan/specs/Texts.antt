-- The plan of a survey as bytes. Assumes nothing.
--     plan_of m E σ named      the plan of a survey of the matroid m and the entries E, run with the source σ
use Rattle.std.specs.Prelude.{ℕ, zero, suc, false, cond, not, ◌&&◌, List, [], ◌++◌, map, Some, None, Ok, Err, codes, decimal, Option, Result}
use Rattle.element.specs.declared.Line.{Line}
use Rattle.fault.specs.Refusals.{Refusal, refused}
use Rattle.entry.specs.Entries.{Entry, low, high}
use Rattle.matroid.specs.Sets.{Elements, count, sum}
use Rattle.matroid.specs.Matroids.{Meaning}
use Rattle.source.specs.Supplies.{Supply, exhausted, plain}
use Rattle.source.specs.Records.{recorded}
use Rattle.layers.specs.Layers.{limited}
use Rattle.promise.specs.Surveys.{Source, State, Outcome, fresh, run, report}
use Rattle.promise.specs.Replies.{run_reply}
use Rattle.form.specs.Sheets.{spaced, ended, price_text, recorded_text, section}
use Rattle.sheet.specs.Code.{record_of}

-- a ledger: its count, and a line for each price paid
abbrev pub ledger_text : List Line → List ℕ
ledger_text ls = section recorded_text (map record_of ls)

-- the texts of the members of K below n, in rising order
abbrev pub each_kept : ℕ → Elements → (ℕ → List ℕ) → List ℕ
each_kept zero K text = []
each_kept (suc n) K text = each_kept n K text ++ cond (K n) (text n) []

-- a kept element: its number, the ends of its entry, and its name
abbrev pub kept_line : (ℕ → Entry) → (ℕ → List ℕ) → ℕ → List ℕ
kept_line E named i = spaced (decimal i) ++ (spaced (price_text (low (E i))) ++ (spaced (price_text (high (E i))) ++ named i))

-- a sum of prices
abbrev pub total_text : ℕ → List ℕ
total_text t = decimal t

-- the kept elements, and the sums of their ends
abbrev pub kept_text : ℕ → (ℕ → Entry) → (ℕ → List ℕ) → Elements → List ℕ
kept_text n E named K =
    ended (decimal (count n K)) ++
    (each_kept n K (kept_line E named) ++
    (spaced (codes "total") ++ (spaced (total_text (sum n (λ i. low (E i)) K)) ++ ended (total_text (sum n (λ i. high (E i)) K)))))

-- a run that came to a base
abbrev pub finished_text : ℕ → State → (ℕ → List ℕ) → Elements → List ℕ
finished_text n s named K = ended (codes "finished") ++ (ledger_text s.ledger ++ kept_text n s.entries named K)

-- a run that was refused
abbrev pub stopped_text : Refusal → State → List ℕ
stopped_text f s =
    spaced (codes "stopped") ++ (spaced (decimal f.number) ++ (spaced (decimal f.place) ++ (ended (decimal f.depth) ++ ledger_text s.ledger)))

-- what is written of a survey, by the answer that it came to, where K is shown
abbrev pub decided_text : ℕ → State → (ℕ → List ℕ) → Result (Unit {0}) Refusal → Elements → List ℕ
decided_text n s named (Ok u) K = finished_text n s named K
decided_text n s named (Err f) K = stopped_text f s

-- a refusal at a spent allowance comes from the quota, which stands one above the record; any other comes from the record
abbrev pub quota_origin : Supply → ℕ → ℕ
quota_origin σ e = cond (not (σ.free e) && exhausted σ.allowance) 1 0

-- the recorded prices, no more of them than the allowance
abbrev pub rationed : List Line → ℕ → Source
rationed ls n = record { supply = limited (plain (recorded ls)) n; keeps = λ e. false }

-- by the answer of a run, and the base that is settled after it
abbrev pub by_answer : ℕ → State → (ℕ → List ℕ) → Result (Unit {0}) Refusal → Option Elements → List ℕ
by_answer n s named (Err f) o = stopped_text f s
by_answer n s named (Ok u) (Some K) = finished_text n s named K
by_answer n s named (Ok u) None = stopped_text (refused 13 0 0) s

-- the plan of the outcome of a run
abbrev pub outcome_text : Meaning → ℕ → Outcome → (ℕ → List ℕ) → List ℕ
outcome_text m depth o named =
    by_answer m.size o.survey named (run_reply depth (quota_origin o.source.supply) o.answer) (report m o.survey)

-- the plan of a survey
abbrev pub plan_of : Meaning → (ℕ → Entry) → Source → (ℕ → List ℕ) → List ℕ
plan_of m E σ named = outcome_text m σ.supply.depth (run m (fresh E) σ) named
