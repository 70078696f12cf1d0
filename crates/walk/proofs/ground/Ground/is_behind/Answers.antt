use Rattle.std.proofs.Common.{rules, tests}
use Rattle.entry.specs.Held.{sheet}
use Rattle.matroid.specs.Questions.{marked}
use Rattle.walk.specs.Stages.{overtaken}
use Rattle.walk.proofs.Searches.{any_is}
use Rattle.walk.proofs.ground.Ground.is_behind.Goals as goal

pub returns : goal.returns
returns c =
    any_is c.args.self.now.n (overtaken (sheet c.args.self.now.entries.now) c.args.x (marked c.args.marks.now)) _ _ c.any.result
    (λ x b q k. search (rules, tests)) c.any.ensures.ran
