use Rattle.std.proofs.Common.{◌≡◌, min, length, arith}
use Rattle.element.specs.Marks.{all_marks}
use Rattle.matroid.specs.Sets.{cut}
use Rattle.matroid.specs.Questions.{marked}
use Rattle.matroid.proofs.Marks.{showing_all}
use Rattle.matroid.proofs.asking.show.Goals as goal

pub returns : goal.returns
returns c =
    let e : c.loop-k.k ≡ min (length c.args.marks.now) all_marks = omega arith in
    showing_all (cut c.args.n (marked c.args.members.now)) c.args.marks.now c.loop-k.marks c.loop-k.k e c.loop-k.invariant
