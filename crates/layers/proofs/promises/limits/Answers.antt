use Rattle.source.proofs.Lastings.{lasting}
use Rattle.layers.specs.Layers.{limited}
use Rattle.layers.proofs.Bounds.{bounded}
use Rattle.layers.proofs.promises.limits.Goals as goal

pub returns : goal.returns
returns g c =
    let σ = g.S.Source.meaning c.args.below.now in
    record { lasts = lasting (limited σ c.args.number); bounded = bounded σ c.args.number }
