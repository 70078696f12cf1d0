use Rattle.promise.proofs.Endings.{run_unpaid}
use Rattle.promise.proofs.Shown.{progresses}
use Rattle.survey.specs.States.{sourced, state}
use Rattle.survey.proofs.Running.{sheet_proper}
use Rattle.survey.proofs.surveys.Survey.run.Goals as goal

pub returns-clause-unpaid : goal.returns-clause-unpaid
returns-clause-unpaid g c =
    let x = c.args.self.now in
    run_unpaid (g.M.Matroid.meaning x.matroid) (g.met.M.Matroid.laws x.matroid) (state x.tables) (sheet_proper x.tables.entries) (sourced g.S.Source.meaning g.S.Source.keeps c.args.source.now)

pub returns-clause-progress : goal.returns-clause-progress
returns-clause-progress g c =
    let x = c.args.self.now in
    progresses (g.M.Matroid.meaning x.matroid) (g.met.M.Matroid.laws x.matroid) (state x.tables) (sourced g.S.Source.meaning g.S.Source.keeps c.args.source.now)

pub returns-in_err-run_to_base-clause-progress : goal.returns-in_err-run_to_base-clause-progress
returns-in_err-run_to_base-clause-progress g c =
    let x = c.args.self.now in
    progresses (g.M.Matroid.meaning x.matroid) (g.met.M.Matroid.laws x.matroid) (state x.tables) (sourced g.S.Source.meaning g.S.Source.keeps c.args.source.now)
