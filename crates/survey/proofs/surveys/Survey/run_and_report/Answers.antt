use Rattle.std.proofs.Common.{sym, subst}
use Rattle.fault.specs.Refusals.{told}
use Rattle.promise.specs.Reports.{Assures}
use Rattle.promise.specs.Surveys.{Source as Prices, State}
use Rattle.promise.proofs.Endings.{run_unpaid}
use Rattle.promise.proofs.Shown.{progresses}
use Rattle.survey.specs.States.{sourced, state}
use Rattle.survey.proofs.Following.{followed_assures}
use Rattle.survey.proofs.Running.{sheet_proper}
use Rattle.survey.proofs.surveys.Survey.run_and_report.Goals as goal

pub returns : goal.returns
returns g c =
    let h = c.run_and_show.ensures in
    let x = c.args.self.now in
    let m = g.M.Matroid.meaning x.matroid in
    let laws = g.met.M.Matroid.laws x.matroid in
    let σ : Prices = sourced g.S.Source.meaning g.S.Source.keeps c.args.source.now in
    record {
      matroid = h.matroid;
      answer = h.answer;
      marks = h.marks;
      survey = h.survey;
      source = h.source;
      unpaid = run_unpaid m laws (state x.tables) (sheet_proper x.tables.entries) σ;
      progress = progresses m laws (state x.tables) σ;
      promise =
          subst (λ (s : State). Assures m s (told (λ v. v) c.run_and_show.result) c.run_and_show.new.marks) (sym h.survey)
          (followed_assures m laws h.small (g.S.Source.meaning c.args.source.now).depth (g.S.Source.origin c.run_and_show.new.source) (state x.tables) σ c.args.marks.now
          c.run_and_show.new.marks (told (λ v. v) c.run_and_show.result) h.answer h.marks);
    }
