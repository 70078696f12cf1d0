use Rattle.std.proofs.Common.{rules, None, Ok, Err, sym, refl, ap, ◌∙◌, subst}
use Rattle.std.proofs.lemmas.Result.{err_from_is_err_and}
use Rattle.walk.specs.Walked.{Along}
use Rattle.entry.specs.Held.{sheet}
use Rattle.fault.specs.Refusals.{refusal, told}
use Rattle.promise.specs.Surveys.{run}
use Rattle.promise.specs.Replies.{run_reply}
use Rattle.survey.specs.Moves.{lined}
use Rattle.survey.specs.States.{sourced, state}
use Rattle.survey.proofs.Running.{runs_start, runs_nearer, runs_more, runs_none, runs_err, depth_step, sheet_proper}
use Rattle.survey.proofs.surveys.Survey.run_to_base.Goals as goal

pub loop-kept-init : goal.loop-kept-init
loop-kept-init g c = record {
  matroid = refl;
  runs = runs_start (g.M.Matroid.meaning c.args.self.now.matroid) (g.met.M.Matroid.laws c.args.self.now.matroid) (state c.args.self.now.tables) (sourced g.S.Source.meaning g.S.Source.keeps c.args.source.now);
  depth = refl;
  along = c.new-progress.ensures.along (g.M.Matroid.meaning c.args.self.now.matroid) (sheet c.args.self.now.tables.entries);
}

pub loop-kept-smaller : goal.loop-kept-smaller
loop-kept-smaller g c =
    let h = c.in_ok-kept.ensures in
    let i = c.loop-kept.invariant in
    runs_nearer (g.M.Matroid.meaning c.args.self.now.matroid) (g.met.M.Matroid.laws c.args.self.now.matroid) _ (state c.loop-kept.self.tables) (sheet_proper c.loop-kept.self.tables.entries) (sourced g.S.Source.meaning g.S.Source.keeps c.loop-kept.source)
    (g.M.Matroid.meaning c.loop-kept.self.matroid) (ap g.M.Matroid.meaning i.matroid) _ _ h.survey h.source _ _ i.runs c.in-Paid.field-0 (ap (λ x. Ok (lined x)) (sym c.in-Paid.is) ∙ h.answer)

pub loop-kept-preserved : goal.loop-kept-preserved
loop-kept-preserved g c =
    let h = c.in_ok-kept.ensures in
    let i = c.loop-kept.invariant in
    record {
      matroid = h.matroid ∙ i.matroid;
      runs =
          runs_more (g.M.Matroid.meaning c.args.self.now.matroid) (g.met.M.Matroid.laws c.args.self.now.matroid) _ (state c.loop-kept.self.tables) (sheet_proper c.loop-kept.self.tables.entries) (sourced g.S.Source.meaning g.S.Source.keeps c.loop-kept.source)
          (g.M.Matroid.meaning c.loop-kept.self.matroid) (ap g.M.Matroid.meaning i.matroid) _ _ h.survey h.source _ _ i.runs c.in-Paid.field-0 (ap (λ x. Ok (lined x)) (sym c.in-Paid.is) ∙ h.answer);
      depth = depth_step (g.M.Matroid.meaning c.loop-kept.self.matroid) (state c.loop-kept.self.tables) (sourced g.S.Source.meaning g.S.Source.keeps c.loop-kept.source) (sourced g.S.Source.meaning g.S.Source.keeps c.advance.new.source) h.source ∙ i.depth;
      along = subst (λ m. Along m (sheet c.advance.new.self.tables.entries) c.advance.new.progress) (ap g.M.Matroid.meaning i.matroid) h.along;
    }

pub returns-in-Finished : goal.returns-in-Finished
returns-in-Finished g c =
    let h = c.in_ok-kept.ensures in
    let i = c.loop-kept.invariant in
    let r = runs_none (g.M.Matroid.meaning c.args.self.now.matroid) (g.met.M.Matroid.laws c.args.self.now.matroid) _ (state c.loop-kept.self.tables) (sheet_proper c.loop-kept.self.tables.entries) (sourced g.S.Source.meaning g.S.Source.keeps c.loop-kept.source)
    (g.M.Matroid.meaning c.loop-kept.self.matroid) (ap g.M.Matroid.meaning i.matroid) _ _ h.survey h.source _ _ i.runs (ap (λ x. Ok (lined x)) (sym c.in-Finished.is) ∙ h.answer) in
    record {
      matroid = h.matroid ∙ i.matroid;
      answer = r.answer_is (Ok None) (ap (λ x. Ok (lined x)) (sym c.in-Finished.is) ∙ h.answer) ∙ ap (λ d. run_reply d (g.S.Source.origin c.advance.new.source) (run (g.M.Matroid.meaning c.args.self.now.matroid) (state c.args.self.now.tables) (sourced g.S.Source.meaning g.S.Source.keeps c.args.source.now)).answer) i.depth;
      survey = r.survey_is;
      source = r.source_is;
      base = search rules;
    }

pub returns-in_err-kept : goal.returns-in_err-kept
returns-in_err-kept g c =
    let p = err_from_is_err_and c.from_residual.result c.from_residual.ensures.1 in
    let h = c.in_err-kept.ensures in
    let i = c.loop-kept.invariant in
    let f = refusal c.in_err-kept.field-0.0 in
    let r = runs_err (g.M.Matroid.meaning c.args.self.now.matroid) (g.met.M.Matroid.laws c.args.self.now.matroid) _ (state c.loop-kept.self.tables) (sheet_proper c.loop-kept.self.tables.entries) (sourced g.S.Source.meaning g.S.Source.keeps c.loop-kept.source)
    (g.M.Matroid.meaning c.loop-kept.self.matroid) (ap g.M.Matroid.meaning i.matroid) _ _ h.survey h.source _ _ i.runs f h.answer in
    record {
      matroid = h.matroid ∙ i.matroid;
      answer =
          ap (told (λ x. tt)) p.1 ∙ (ap (λ x. Err (refusal x)) p.2 ∙
          (r.answer_is (Err f) h.answer ∙ ap (λ d. run_reply d (g.S.Source.origin c.advance.new.source) (run (g.M.Matroid.meaning c.args.self.now.matroid) (state c.args.self.now.tables) (sourced g.S.Source.meaning g.S.Source.keeps c.args.source.now)).answer) i.depth));
      survey = r.survey_is;
      source = r.source_is;
      base = search rules;
    }
