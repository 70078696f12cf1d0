-- The survey of a sheet that is accepted keeps the promise. Assumes nothing.
use Rattle.std.proofs.Common.{◌≡◌, ℕ, zero, suc, ◌⊎◌, List, [], ◌∷◌, map, length, get_or, Some, None, Ok, Err, Option, Result, refl, ap, inl, inr}
use Rattle.std.specs.List.{AllByRecursion}
use Rattle.fault.specs.Refusals.{Refusal, refused}
use Rattle.matroid.specs.Sets.{Elements}
use Rattle.promise.specs.Surveys.{Outcome, fresh, report, run}
use Rattle.promise.specs.Replies.{run_reply}
use Rattle.promise.specs.Claims.{Promise}
use Rattle.entry.specs.Entries.{Entry, Known, Range, Proper}
use Rattle.kinds.specs.Lists.{all_places, at, from, to}
use Rattle.kinds.proofs.Routes.{routes_laws}
use Rattle.kinds.proofs.Lots.{lots_laws}
use Rattle.kinds.proofs.Words.{words_laws}
use Rattle.matroid.specs.Matroids.{Laws}
use Rattle.promise.proofs.Promised.{promised}
use Rattle.form.specs.Sheets.{Element, EntryOk, Sheet, Within, routes, lots, words}
use Rattle.form.proofs.Whole.{accepts_the_written}
use Rattle.plan.specs.Meanings.{word_number}
use Rattle.plan.specs.Plans.{answer_plan, entries_of, matroid_of, names_of, plan_bytes, plan_calls, route_from, source_of, tails}
use Rattle.plan.specs.Promises.{Finished, Kept, Stopped, Tells, surveyed}
use Rattle.plan.specs.Texts.{by_answer, quota_origin}

proper_entry : (e : Entry) → EntryOk e → Proper e
proper_entry (Known p) ok = tt
proper_entry (Range low high) ok = ok.0

-- entries that are legal are proper
proper_in : {T : Type 0} (Ok-tail : T → Type 0) (es : List (Element T)) → AllByRecursion (λ e. EntryOk e.0 × Ok-tail e.1) es → (i : ℕ) → Proper (get_or (map (λ e. e.0) es) i (Known 0))
proper_in Ok-tail [] all i = tt
proper_in Ok-tail (e ∷ es) all zero = proper_entry e.0 all.0.0
proper_in Ok-tail (e ∷ es) all (suc i) = proper_in Ok-tail es all.1 i

proper_of : (s : Sheet) → Within s → (i : ℕ) → Proper (entries_of s i)
proper_of (routes b) legal = proper_in _ b.elements legal.elements
proper_of (lots b) legal = proper_in _ b.elements legal.elements
proper_of (words b) legal = proper_in _ b.elements legal.elements

-- whatever the kind, its matroid keeps the laws
laws_of : (s : Sheet) → Laws (matroid_of s)
laws_of (routes b) = let rs = map route_from (tails b) in routes_laws (length rs) all_places (from rs) (to rs)
laws_of (lots b) = lots_laws (length (tails b)) (at (tails b)) (at (map (λ l. l.1) b.places))
laws_of (words b) = let ws = map word_number (tails b) in words_laws (length ws) (at ws)

pub kept : (bs : List ℕ) → Kept bs
kept bs s e = promised (matroid_of s) (laws_of s) (entries_of s) (proper_of s ((accepts_the_written bs s).0 e).0.0) (plan_calls s)

-- what is printed, by the answer of the run and the base that is settled after it
told_by : (bs : List ℕ) (s : Sheet) (r : Result (Unit {0}) Refusal) (o : Option Elements) → plan_bytes bs ≡ by_answer (matroid_of s).size (surveyed s) (names_of s) r o
    → report (matroid_of s) (surveyed s) ≡ o → Promise (matroid_of s) (entries_of s) (plan_calls s) → Finished bs s ⊎ Stopped bs s
told_by bs s (Err f) o e r p = inr (record { fault = f; printed = e })
told_by bs s (Ok u) None e r p = inr (record { fault = refused 13 0 0; printed = e })
told_by bs s (Ok u) (Some K) e r p = inl (record { kept = K; printed = e; cheapest = p.right.sound K r; few = p.few })

pub tells : (bs : List ℕ) → Tells bs
tells bs s e =
    let o : Outcome = run (matroid_of s) (fresh (entries_of s)) (source_of s) in
    told_by bs s (run_reply (source_of s).supply.depth (quota_origin o.source.supply) o.answer) (report (matroid_of s) (surveyed s)) (ap answer_plan e) refl (kept bs s e)
