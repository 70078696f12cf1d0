-- A run, one step after another. Assumes nothing.
use Rattle.std.proofs.Common.{◌≡◌, ℕ, zero, suc, ◌<◌, ◌≤◌, List, get_or, Some, None, Ok, Err, Option, Result, sym, refl, ap, ◌∙◌, subst, arith}
use Rattle.element.specs.declared.Line.{Line}
use Rattle.fault.specs.Refusals.{Refusal}
use Rattle.entry.specs.declared.Entry.{Entry as Value}
use Rattle.entry.specs.declared.Entry.TheVariants.{Known as KnownValue, Range as RangeValue}
use Rattle.entry.specs.Entries.{Proper}
use Rattle.entry.specs.Held.{held, sheet}
use Rattle.matroid.specs.Matroids.{Meaning, Laws}
use Rattle.promise.specs.Surveys.{Source, State, Answer, finished, paid, outside, declined, Outcome, step, steps, run}
use Rattle.promise.specs.Replies.{step_reply, unlined, run_reply}
use Rattle.promise.proofs.Endings.{payable, pays_one, payable_most}
use Rattle.promise.proofs.Stepping.{step_source, went}

-- ## What an answer was

abbrev Paid : Answer → Type 0
Paid a = (e : ℕ) × (p : ℕ) × (a ≡ paid e p)

paid_reply : (d : ℕ) (o : ℕ → ℕ) (a : Answer) (l : Line) → Ok (Some l) ≡ step_reply d o a → Paid a
paid_reply d o finished l h = let z : ◌≡◌ {A = ℕ} 0 1 = cc in absurd (omega arith)
paid_reply d o (paid e p) l h = (e, p, refl)
paid_reply d o (outside e) l h = let z : ◌≡◌ {A = ℕ} 0 1 = cc in absurd (omega arith)
paid_reply d o (declined e c) l h = let z : ◌≡◌ {A = ℕ} 0 1 = cc in absurd (omega arith)

-- an answer that ends a run
abbrev Last : Answer → Type 0
Last a = (e p : ℕ) → a ≡ paid e p → ⊥

none_last : (d : ℕ) (o : ℕ → ℕ) (a : Answer) → Ok None ≡ step_reply d o a → Last a
none_last d o a h e p q = let k = h ∙ ap (step_reply d o) q in let z : ◌≡◌ {A = ℕ} 0 1 = cc in omega arith

err_last : (d : ℕ) (o : ℕ → ℕ) (a : Answer) (f : Refusal) → Err f ≡ step_reply d o a → Last a
err_last d o a f h e p q = let k = h ∙ ap (step_reply d o) q in let z : ◌≡◌ {A = ℕ} 0 1 = cc in omega arith

-- ## Steps

steps_last : (k : ℕ) (m : Meaning) (s : State) (σ : Source) → Last (step m s σ).answer → steps k m s σ ≡ step m s σ
steps_last zero m s σ h = refl
steps_last (suc k) m s σ h = by_answer (step m s σ).answer h
  where
    by_answer : (a : Answer) → Last a → went k m (step m s σ) a ≡ step m s σ
    by_answer finished l = refl
    by_answer (paid e p) l = absurd (l e p refl)
    by_answer (outside e) l = refl
    by_answer (declined e c) l = refl

steps_more : (k : ℕ) (m : Meaning) (s : State) (σ : Source) → Paid (step m s σ).answer → steps (suc k) m s σ ≡ steps k m (step m s σ).survey (step m s σ).source
steps_more k m s σ h = by_answer (step m s σ).answer h
  where
    by_answer : (a : Answer) → Paid a → went k m (step m s σ) a ≡ steps k m (step m s σ).survey (step m s σ).source
    by_answer finished p = let q = p.2 in let z : ◌≡◌ {A = ℕ} 0 1 = cc in absurd (omega arith)
    by_answer (paid e p) h = refl
    by_answer (outside e) p = let q = p.2 in let z : ◌≡◌ {A = ℕ} 0 1 = cc in absurd (omega arith)
    by_answer (declined e c) p = let q = p.2 in let z : ◌≡◌ {A = ℕ} 0 1 = cc in absurd (omega arith)

-- the rest of the run from s and σ is what the run from its start comes to
pub record Runs (m : Meaning) (whole : Outcome) (s : State) (σ : Source) : Type 0 where
  pub left : ℕ
  pub enough : payable m.size s ≤ left
  pub is : steps left m s σ ≡ whole

pub runs_start : (m : Meaning) (laws : Laws m) (s : State) (σ : Source) → Runs m (run m s σ) s σ
runs_start m laws s σ = record { left = suc m.size; enough = payable_most m laws s; is = refl }

-- one more step of a run, by a matroid of the same meaning: there are t and τ after it
module _ (m : Meaning) (laws : Laws m) (whole : Outcome) (s : State) (proper : (i : ℕ) → Proper (s.entries i)) (σ : Source) (n : Meaning) (same : n ≡ m) (t : State) (τ : Source)
    (survey : t ≡ (step n s σ).survey) (source : τ ≡ (step n s σ).source) (d : ℕ) (o : ℕ → ℕ) (runs : Runs m whole s σ) where
  answer : (r : Result (Option Line) Refusal) → r ≡ step_reply d o (step n s σ).answer → r ≡ step_reply d o (step m s σ).answer
  answer r h = h ∙ ap (λ (k : Meaning). step_reply d o (step k s σ).answer) same

  survey_of : t ≡ (step m s σ).survey
  survey_of = survey ∙ ap (λ (k : Meaning). (step k s σ).survey) same

  source_of : τ ≡ (step m s σ).source
  source_of = source ∙ ap (λ (k : Meaning). (step k s σ).source) same

  nearer : Paid (step m s σ).answer → payable m.size t < payable m.size s
  nearer p =
      subst (λ (u : State). payable m.size u < payable m.size s) (sym survey_of) (pays_one m laws s proper σ p.0 p.1 p.2)

  pub runs_nearer : (l : Line) → Ok (Some l) ≡ step_reply d o (step n s σ).answer → payable m.size t < payable m.size s
  runs_nearer l h = nearer (paid_reply d o (step m s σ).answer l (answer _ h))

  pub runs_more : (l : Line) → Ok (Some l) ≡ step_reply d o (step n s σ).answer → Runs m whole t τ
  runs_more l h = by_left runs.left runs.enough runs.is
    where
      paid : Paid (step m s σ).answer
      paid = paid_reply d o (step m s σ).answer l (answer _ h)

      by_left : (k : ℕ) → payable m.size s ≤ k → steps k m s σ ≡ whole → Runs m whole t τ
      by_left zero b e = absurd (omega (arith, nearer paid))
      by_left (suc k) b e = record {
        left = k;
        enough = omega (arith, nearer paid);
        is =
            ap (λ (u : State). steps k m u τ) survey_of ∙
            (ap (λ (υ : Source). steps k m (step m s σ).survey υ) source_of ∙
            (sym (steps_more k m s σ paid) ∙ e));
      }

  -- what a run comes to that this step ends
  pub record Ends : Type 0 where
    pub survey_is : t ≡ whole.survey
    pub source_is : τ ≡ whole.source
    pub answer_is : (r : Result (Option Line) Refusal) → r ≡ step_reply d o (step n s σ).answer → unlined r ≡ run_reply d o whole.answer

  ends : Last (step m s σ).answer → Ends
  ends l =
      let e : step m s σ ≡ whole = sym (steps_last runs.left m s σ l) ∙ runs.is in
      record {
        survey_is = survey_of ∙ ap (λ (x : Outcome). x.survey) e;
        source_is = source_of ∙ ap (λ (x : Outcome). x.source) e;
        answer_is = λ r h. ap unlined (answer r h) ∙ ap (λ (x : Outcome). run_reply d o x.answer) e;
      }

  pub runs_none : Ok None ≡ step_reply d o (step n s σ).answer → Ends
  runs_none h = ends (none_last d o (step m s σ).answer (answer _ h))

  pub runs_err : (f : Refusal) → Err f ≡ step_reply d o (step n s σ).answer → Ends
  runs_err f h = ends (err_last d o (step m s σ).answer f (answer _ h))

-- a step leaves the depth of its source
pub depth_step : (m : Meaning) (s : State) (σ τ : Source) → τ ≡ (step m s σ).source → τ.supply.depth ≡ σ.supply.depth
depth_step m s σ τ e =
    ap (λ (x : Source). x.supply.depth) e ∙ step_source m (λ x. x.supply.depth ≡ σ.supply.depth) (λ x k q. q) s σ refl

-- the ranges of a table are proper
held_proper : (x : Value) → Proper (held x)
held_proper (KnownValue p) = tt
held_proper (RangeValue r) = r.proper

pub sheet_proper : (es : List Value) (i : ℕ) → Proper (sheet es i)
sheet_proper es i = held_proper (get_or es i (KnownValue 0))
