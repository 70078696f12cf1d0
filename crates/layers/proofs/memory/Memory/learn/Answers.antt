use Rattle.source.specs.Records.{tabled}
use Rattle.layers.proofs.Remembering.{answers, keeps}
use Rattle.layers.proofs.memory.Memory.learn.Goals as goal

pub returns : goal.returns
returns g c =
    let m = c.args.self.now in
    let e = c.args.element in
    let p = c.in_ok-price.price in
    let came = c.in_ok-price.ensures in
    let σ = g.S.Source.meaning m.below in
    let τ = g.S.Source.meaning c.price.new.self in
    let before = tabled m.remembered in
    let later = tabled c.set.new.self in
    let d = g.S.Source.origin m.below e in
    let k = g.S.Source.keeps m.below e in
    record {
      answer = answers σ τ before later d e p k c.requires came.answer;
      after = keeps σ τ before later d e p k c.requires came.answer came.after c.set.ensures;
      still = tt;
    }
