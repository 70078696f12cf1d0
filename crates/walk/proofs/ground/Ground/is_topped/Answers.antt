use Rattle.std.proofs.Common.{not, ◌||◌, eqb, leb, rules, tests}
use Rattle.entry.specs.Entries.{low, high}
use Rattle.entry.specs.Held.{sheet}
use Rattle.matroid.specs.Questions.{marked}
use Rattle.walk.proofs.Searches.{all_is}
use Rattle.walk.proofs.ground.Ground.is_topped.Goals as goal

pub returns : goal.returns
returns c =
    let E = sheet c.args.self.now.entries.now in
    all_is c.args.self.now.n (λ x. not (marked c.args.marks.now x) || (eqb x c.args.e || leb (high (E x)) (low (E c.args.e)))) _ _ c.all.result
    (λ x b q k. search (rules, tests)) c.all.ensures.ran
