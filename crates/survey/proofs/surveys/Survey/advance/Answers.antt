use Rattle.std.proofs.Common.{ap, ◌∙◌}
use Rattle.entry.specs.Entries.{high}
use Rattle.entry.specs.Held.{sheet}
use Rattle.source.specs.Supplies.{verdict}
use Rattle.survey.specs.States.{sourced, state}
use Rattle.survey.proofs.Paying.{paid_pays}
use Rattle.survey.proofs.surveys.Survey.advance.Goals as goal

pub returns-in_ok-line-in-Ask-clause-along : goal.returns-in_ok-line-in-Ask-clause-along
returns-in_ok-line-in-Ask-clause-along g c =
    let s = state c.args.self.now.tables in
    let σ = sourced g.S.Source.meaning g.S.Source.keeps c.args.source.now in
    let d = (g.S.Source.meaning c.args.source.now).depth in
    let o = g.S.Source.origin c.price.new.source in
    let h = c.in_ok-line-in-Ask.ensures in
    let p = paid_pays s σ _ _ d o c.in_ok-line-in-Ask.line (verdict σ.supply _) h.answer in
    c.go_back.ensures.along (g.M.Matroid.meaning c.args.self.now.matroid) (sheet c.args.self.now.tables.entries) c.in_ok-line-in-Ask.line.price (g.met.M.Matroid.laws c.args.self.now.matroid) c.size-n.ensures p.inside
    (c.high.ensures ∙ ap high c.entry-entry.ensures) (ap (λ t. t.entries) h.survey ∙ p.entries) c.in-Ask.ensures.along
