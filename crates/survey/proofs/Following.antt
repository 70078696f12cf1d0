-- A report that follows a run: where the run is refused there is no base to show.
use Rattle.std.proofs.Common.{◌≡◌, ℕ, zero, suc, ◌≤◌, Bool, List, Some, None, Ok, Err, Option, Result, sym, refl, ap, ◌∙◌, arith}
use Rattle.std.proofs.lemmas.Bool.{cond_both}
use Rattle.element.specs.Marks.{all_marks}
use Rattle.entry.specs.Entries.{inside}
use Rattle.fault.specs.Refusals.{Refusal}
use Rattle.matroid.specs.Sets.{Elements}
use Rattle.matroid.specs.Matroids.{Meaning, Laws}
use Rattle.source.specs.Supplies.{Verdict, refused, given, verdict}
use Rattle.promise.specs.Walks.{Ended, settled, open_at, walk, topmost}
use Rattle.promise.specs.Surveys.{Source, State, Answer, finished, paid, outside, declined, Outcome, due, tried, step, steps, run, report}
use Rattle.promise.specs.Replies.{run_reply, report_reply, followed}
use Rattle.promise.specs.Reports.{Assures}
use Rattle.promise.proofs.Reports.{right, few}
use Rattle.promise.proofs.Shown.{assures}
use Rattle.promise.proofs.Stepping.{acted, planned, readied, went}

module _ (m : Meaning) (d : ℕ) (o : ℕ → ℕ) (f : Refusal) where
  -- a price call that is refused leaves the survey as it was
  tried_stops : (s : State) (σ : Source) (e : ℕ) (q : Option ℕ) → report m s ≡ None → (v : Verdict)
      → Err f ≡ run_reply d o (tried s σ e q v).answer → report m (tried s σ e q v).survey ≡ None
  tried_stops s σ e q h (refused c) = λ r. h
  tried_stops s σ e q h (given p) =
      cond_both (inside (s.entries e) p) _ _ (λ (x : Outcome). Err f ≡ run_reply d o x.answer → report m x.survey ≡ None)
      (λ t r. let z : ◌≡◌ {A = ℕ} 0 1 = cc in absurd (omega arith))
      (λ t r. h)

  readied_stops : (s : State) (σ : Source) (C : Elements) → report m s ≡ None → (x : Option ℕ)
      → Err f ≡ run_reply d o (acted s σ (readied m s C x)).answer → report m (acted s σ (readied m s C x)).survey ≡ None
  readied_stops s σ C h (Some e) = tried_stops s σ e None h (verdict σ.supply e)
  readied_stops s σ C h None = tried_stops s σ (topmost m.size s.entries C) _ h (verdict σ.supply (topmost m.size s.entries C))

  walk_stops : (s : State) (σ : Source) (z : Ended) → walk m s.entries ≡ z
      → Err f ≡ run_reply d o (acted s σ (planned m s z)).answer → report m (acted s σ (planned m s z)).survey ≡ None
  walk_stops s σ (settled K) e = λ r. let z : ◌≡◌ {A = ℕ} 0 1 = cc in absurd (omega arith)
  walk_stops s σ (open_at C) e = readied_stops s σ C (ap (λ (z : Ended). elim z [ settled K ↦ Some K | open_at B ↦ None ]) e) (due s)

  step_stops : (s : State) (σ : Source) → Err f ≡ run_reply d o (step m s σ).answer → report m (step m s σ).survey ≡ None
  step_stops s σ = walk_stops s σ (walk m s.entries) refl

  -- and so does a step, and the last step of a run
  steps_stop : (k : ℕ) (s : State) (σ : Source) → Err f ≡ run_reply d o (steps k m s σ).answer → report m (steps k m s σ).survey ≡ None
  steps_stop zero s σ r = step_stops s σ r
  steps_stop (suc k) s σ r = by_answer (step m s σ).answer (steps_stop k (step m s σ).survey (step m s σ).source) r
    where
      by_answer : (a : Answer) → (Err f ≡ run_reply d o (steps k m (step m s σ).survey (step m s σ).source).answer → report m (steps k m (step m s σ).survey (step m s σ).source).survey ≡ None)
          → Err f ≡ run_reply d o (went k m (step m s σ) a).answer → report m (went k m (step m s σ) a).survey ≡ None
      by_answer finished i q = step_stops s σ q
      by_answer (paid e p) i q = i q
      by_answer (outside e) i q = step_stops s σ q
      by_answer (declined e c) i q = step_stops s σ q

-- what is answered to a run and then a report assures as a report does, whatever calls came before
pub followed_assures : (m : Meaning) → Laws m → m.size ≤ all_marks → (d : ℕ) (o : ℕ → ℕ) (s : State) (σ : Source) (marks after_marks : List Bool) (r : Result (Unit {0}) Refusal)
    → r ≡ (followed (run_reply d o (run m s σ).answer) marks (report_reply m (run m s σ).survey marks)).answer
    → after_marks ≡ (followed (run_reply d o (run m s σ).answer) marks (report_reply m (run m s σ).survey marks)).marks
    → Assures m (run m s σ).survey r after_marks
followed_assures m laws small d o s σ marks after_marks r = by_reply (run_reply d o (run m s σ).answer) refl
  where
    by_reply : (x : Result (Unit {0}) Refusal) → x ≡ run_reply d o (run m s σ).answer → r ≡ (followed x marks (report_reply m (run m s σ).survey marks)).answer
        → after_marks ≡ (followed x marks (report_reply m (run m s σ).survey marks)).marks → Assures m (run m s σ).survey r after_marks
    by_reply (Ok u) h a b = assures m laws small (run m s σ).survey marks after_marks r a b
    by_reply (Err f) h a b = λ E proper cs q. record {
      reported = record {
        sound = λ g. let z : ◌≡◌ {A = ℕ} 0 1 = cc in absurd (omega arith);
        complete = λ B c l.
            let n = steps_stop m d o f (suc m.size) s σ h in
            let x = (right m laws E proper cs).complete B c in
            let y = sym n ∙ ap (report m) q ∙ x.1 in
            let z : ◌≡◌ {A = ℕ} 0 1 = cc in absurd (omega arith);
      };
      few = few m laws E proper cs;
    }
