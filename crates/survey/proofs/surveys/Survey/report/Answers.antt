use Rattle.fault.specs.Refusals.{told}
use Rattle.promise.proofs.Shown.{assures}
use Rattle.survey.specs.States.{state}
use Rattle.survey.proofs.surveys.Survey.report.Goals as goal

pub returns : goal.returns
returns g c =
    let h = c.show_settled.ensures in
    let x = c.args.self.now in
    record {
      answer = h.answer;
      marks = h.marks;
      promise = assures (g.M.Matroid.meaning x.matroid) (g.met.M.Matroid.laws x.matroid) h.small (state x.tables) c.args.marks.now c.show_settled.new.marks (told (λ v. v) c.show_settled.result) h.answer h.marks;
    }
