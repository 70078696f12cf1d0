use Rattle.source.specs.Records.{blank}
use Rattle.source.proofs.Lastings.{lasting}
use Rattle.source.proofs.Payments.{pays_once}
use Rattle.layers.specs.Layers.{remembering}
use Rattle.layers.proofs.promises.remembers.Goals as goal

pub returns : goal.returns
returns g c =
    let σ = g.S.Source.meaning c.args.below.now in
    record { lasts = lasting (remembering σ blank); once = pays_once (remembering σ blank) }
