use Rattle.source.specs.Supplies.{verdict}
use Rattle.survey.specs.States.{sourced, state}
use Rattle.survey.proofs.Refusing.{refused_survey, refused_source}
use Rattle.survey.proofs.tables.Tables.price.Goals as goal

pub returns-in_err-price-clause-survey : goal.returns-in_err-price-clause-survey
returns-in_err-price-clause-survey g c =
    refused_survey (state c.args.self.now) (sourced g.S.Source.meaning g.S.Source.keeps c.args.source.now) c.args.element c.args.pending (g.S.Source.origin c.args.source.now)
    c.in_err-price.field-0.0 (verdict (g.S.Source.meaning c.args.source.now) c.args.element) c.in_err-price.ensures.answer

pub returns-in_err-price-clause-source : goal.returns-in_err-price-clause-source
returns-in_err-price-clause-source g c =
    let h = c.in_err-price.ensures in
    refused_source (state c.args.self.now) (sourced g.S.Source.meaning g.S.Source.keeps c.args.source.now) c.args.element c.args.pending (g.S.Source.origin c.args.source.now)
    c.in_err-price.field-0.0 (verdict (g.S.Source.meaning c.args.source.now) c.args.element) h.answer (g.S.Source.meaning c.price.new.self) (g.S.Source.keeps c.price.new.self) h.after h.kept
