-- What a price call, a step and a run keep.
use Rattle.std.proofs.Common.{◌≡◌, ℕ, zero, suc, ◌+◌, true, Some, None, Option, refl, subst, arith}
use Rattle.std.proofs.lemmas.Bool.{cond_both}
use Rattle.matroid.specs.Sets.{Elements}
use Rattle.matroid.specs.Matroids.{Meaning}
use Rattle.source.specs.Supplies.{Verdict, refused, given, verdict}
use Rattle.promise.specs.Walks.{Ended, settled, open_at}
use Rattle.promise.specs.Surveys.{Source, State, after_price, due, Plan, rest, ask, choose, Answer, finished, paid, outside, declined, Outcome, paid_for, tried, rested, next, step, steps}
use Rattle.promise.specs.Calls.{first, told, step_firsts, run_firsts}
use Rattle.entry.specs.Entries.{inside}

-- the step by the element that is due, by the end of the walk, and by the plan
abbrev pub readied : Meaning → State → Elements → Option ℕ → Plan
readied m s C o = elim o [ Some e ↦ ask e None | None ↦ choose m.size s.entries C ]

abbrev pub planned : Meaning → State → Ended → Plan
planned m s z = elim z [ settled K ↦ rest K | open_at C ↦ readied m s C (due s) ]

abbrev pub acted : State → Source → Plan → Outcome
acted s σ x = elim x [ rest K ↦ rested s σ | ask e q ↦ tried s σ e q (verdict σ.supply e) ]

-- where no first price was paid
pub as_before : (P : ℕ → State → Type 0) (k : ℕ) (s : State) → P k s → P (k + 0) s
as_before P k s h = let e : k ≡ k + 0 = omega arith in subst (λ (j : ℕ). P j s) e h

-- a property of the first prices so far and the survey that a price inside keeps, a price call keeps
pub tried_keeps : (P : ℕ → State → Type 0) (k : ℕ) (d : Option ℕ) (s : State) (σ : Source) (e : ℕ) (q : Option ℕ) → P k s
    → ((p : ℕ) → inside (s.entries e) p ≡ true → P (k + first d) (paid_for s e p q)) → (v : Verdict)
    → P (k + told d (tried s σ e q v).answer) (tried s σ e q v).survey
tried_keeps P k d s σ e q h f (refused c) = as_before P k s h
tried_keeps P k d s σ e q h f (given p) =
    cond_both (inside (s.entries e) p) _ _ (λ (o : Outcome). P (k + told d o.answer) o.survey) (λ t. f p t) (λ t. as_before P k s h)

-- a run goes on after a paid step
abbrev pub went : ℕ → Meaning → Outcome → Answer → Outcome
went k m o x = elim x [ finished ↦ o | paid e p ↦ steps k m o.survey o.source | outside e ↦ o | declined e c ↦ o ]

abbrev went_firsts : ℕ → Meaning → Outcome → Answer → ℕ
went_firsts k m o x = elim x [ finished ↦ 0 | paid e p ↦ run_firsts k m o.survey o.source | outside e ↦ 0 | declined e c ↦ 0 ]

-- the last step of a run with the outcome o and j first prices
pub record Last (m : Meaning) (Q : Source → Type 0) (P : ℕ → State → Type 0) (o : Outcome) (j : ℕ) : Type 0 where
  pub before : ℕ
  pub state : State
  pub source : Source
  pub kind : Q source
  pub held : P before state
  pub is : step m state source ≡ o
  pub total : before + step_firsts m state source ≡ j

-- P is kept by a step, with sources of a kind Q that a charge keeps
module _ (m : Meaning) (Q : Source → Type 0) (charge : (s : State) (σ : Source) → Q σ → Q (step m s σ).source) (P : ℕ → State → Type 0)
    (kept : (j : ℕ) (s : State) (σ : Source) → Q σ → P j s → P (j + step_firsts m s σ) (step m s σ).survey) where
  pub steps_last : (k j : ℕ) (s : State) (σ : Source) → Q σ → P j s → Last m Q P (steps k m s σ) (j + run_firsts k m s σ)
  steps_last zero j s σ q p = record { before = j; state = s; source = σ; kind = q; held = p; is = refl; total = refl }
  steps_last (suc k) j s σ q p = by_answer (steps_last k) (step m s σ).answer
    where
      here : Last m Q P (step m s σ) (j + (step_firsts m s σ + 0))
      here = record { before = j; state = s; source = σ; kind = q; held = p; is = refl; total = omega arith }

      by_answer : ((i : ℕ) (t : State) (τ : Source) → Q τ → P i t → Last m Q P (steps k m t τ) (i + run_firsts k m t τ))
          → (x : Answer) → Last m Q P (went k m (step m s σ) x) (j + (step_firsts m s σ + went_firsts k m (step m s σ) x))
      by_answer ih finished = here
      by_answer ih (paid e x) =
          let r = ih (j + step_firsts m s σ) (step m s σ).survey (step m s σ).source (charge s σ q) (kept j s σ q p) in
          let a = r.total in
          record { before = r.before; state = r.state; source = r.source; kind = r.kind; held = r.held; is = r.is; total = omega arith }
      by_answer ih (outside e) = here
      by_answer ih (declined e c) = here

  pub steps_keep : (k j : ℕ) (s : State) (σ : Source) → Q σ → P j s → P (j + run_firsts k m s σ) (steps k m s σ).survey
  steps_keep k j s σ q p =
      let r = steps_last k j s σ q p in
      subst (λ (i : ℕ). P i (steps k m s σ).survey) r.total
      (subst (λ (o : Outcome). P (r.before + step_firsts m r.state r.source) o.survey) r.is (kept r.before r.state r.source r.kind r.held))

-- what a price keeps of the source, a step keeps
pub step_source : (m : Meaning) (Q : Source → Type 0) → ((σ : Source) (e : ℕ) → Q σ → Q (after_price σ e)) → (s : State) (σ : Source) → Q σ → Q (step m s σ).source
step_source m Q kept s σ q = by_plan (next m s)
  where
    by_verdict : (e : ℕ) (r : Option ℕ) (v : Verdict) → Q (tried s σ e r v).source
    by_verdict e r (refused c) = q
    by_verdict e r (given p) = cond_both (inside (s.entries e) p) _ _ (λ (o : Outcome). Q o.source) (λ t. kept σ e q) (λ t. kept σ e q)

    by_plan : (x : Plan) → Q (acted s σ x).source
    by_plan (rest K) = q
    by_plan (ask e r) = by_verdict e r (verdict σ.supply e)
