use Rattle.std.proofs.Common.{◌≡◌, sym, ap, ◌∙◌, subst}
use Rattle.fault.specs.Refusals.{told}
use Rattle.matroid.specs.Matroids.{Meaning}
use Rattle.promise.specs.Surveys.{State, fresh}
use Rattle.promise.specs.Calls.{after}
use Rattle.promise.specs.Reports.{Reported}
use Rattle.promise.proofs.Promised.{promised}
use Rattle.survey.specs.States.{listed, state}
use Rattle.requests.specs.Requests.{calls_of}
use Rattle.requests.proofs.Making.{listed_proper}
use Rattle.requests.proofs.conducting.conduct.Goals as goal

pub returns-clause-reported : goal.returns-clause-reported
returns-clause-reported g c =
    let M = g.M.Matroid.meaning in
    let m = M c.args.matroid in
    let E = listed m.size c.args.entries.now in
    let cs = calls_of g.S.Source.meaning g.S.Source.keeps c.args.requests.now in
    let made = c.in_ok-survey.ensures.made in
    let h = c.carry_out_all-answer.ensures in
    let same : c.carry_out_all-answer.new.survey.matroid ≡ c.args.matroid = h.matroid ∙ made.1 in
    let survey : state c.carry_out_all-answer.new.survey.tables ≡ after m (fresh E) cs =
    h.survey ∙ (ap (λ y. after (M y) (state c.in_ok-survey.survey.tables) cs) made.1 ∙ ap (λ (s : State). after m s cs) made.0) in
    subst (λ (n : Meaning). Reported n E cs (told (λ v. v) c.report-report.result) c.report-report.new.marks) (ap M same)
    (c.report-report.ensures.promise E (listed_proper m.size c.args.entries.now) cs (survey ∙ ap (λ (n : Meaning). after n (fresh E) cs) (sym (ap M same)))).reported

pub returns-clause-promise : goal.returns-clause-promise
returns-clause-promise g c =
    let m = g.M.Matroid.meaning c.args.matroid in
    promised m (g.met.M.Matroid.laws c.args.matroid) (listed m.size c.args.entries.now) (listed_proper m.size c.args.entries.now) (calls_of g.S.Source.meaning g.S.Source.keeps c.args.requests.now)

pub returns-in_err-survey-clause-promise : goal.returns-in_err-survey-clause-promise
returns-in_err-survey-clause-promise g c =
    let m = g.M.Matroid.meaning c.args.matroid in
    promised m (g.met.M.Matroid.laws c.args.matroid) (listed m.size c.args.entries.now) (listed_proper m.size c.args.entries.now) (calls_of g.S.Source.meaning g.S.Source.keeps c.args.requests.now)
