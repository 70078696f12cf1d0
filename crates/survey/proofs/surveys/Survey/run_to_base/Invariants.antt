use Rattle.std.proofs.Common.{◌≡◌}
use Rattle.entry.specs.Held.{sheet}
use Rattle.promise.specs.Surveys.{run}
use Rattle.promise.proofs.Endings.{payable}
use Rattle.walk.specs.Walked.{Along}
use Rattle.survey.specs.States.{sourced, state}
use Rattle.survey.proofs.Running.{Runs}
use Rattle.survey.proofs.surveys.Survey.run_to_base.Given as goal

abbrev pub invariant-loop-kept : goal.invariant-loop-kept
invariant-loop-kept g l =
    let m = g.M.Matroid.meaning l.initial.self.matroid in
    record {
      matroid : l.self.matroid ≡ l.initial.self.matroid;
      runs : Runs m (run m (state l.initial.self.tables) (sourced g.S.Source.meaning g.S.Source.keeps l.initial.source)) (state l.self.tables) (sourced g.S.Source.meaning g.S.Source.keeps l.source);
      depth : (g.S.Source.meaning l.source).depth ≡ (g.S.Source.meaning l.initial.source).depth;
      along : Along m (sheet l.self.tables.entries) l.progress;
    }

abbrev pub decreases-loop-kept : goal.decreases-loop-kept
decreases-loop-kept g l = payable (g.M.Matroid.meaning l.initial.self.matroid).size (state l.self.tables)
