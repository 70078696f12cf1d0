use Rattle.std.proofs.lemmas.Result.{err_from_is_err_and}
use Rattle.fault.specs.Refusals.{refusal}
use Rattle.layers.proofs.Limiting.{answers, keeps, blames}
use Rattle.layers.proofs.quota.Quota.pass.Goals as goal

pub returns-in_err-price : goal.returns-in_err-price
returns-in_err-price g c =
    let q = c.args.self.now in
    let e = c.args.element in
    let came = c.in_err-price.ensures in
    let σ = g.S.Source.meaning q.below in
    let τ = g.S.Source.meaning c.price.new.self in
    let origin = g.S.Source.origin q.below in
    let later = g.S.Source.origin c.price.new.self in
    let k = g.S.Source.keeps q.below e in
    let r = refusal c.in_err-price.field-0.0 in
    let p = err_from_is_err_and c.from_residual.result c.from_residual.ensures.1 in
    rw (p.1, p.2)
    (record {
      answer = answers σ q.number e c.requires τ origin later k r came.answer came.after;
      after = keeps σ q.number e c.requires τ origin later k r came.answer came.after;
      kept = came.kept;
      still = blames σ q.number e c.requires τ origin later k r came.answer came.after came.still;
    })
