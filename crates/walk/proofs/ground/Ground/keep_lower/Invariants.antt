use Rattle.entry.specs.Held.{sheet}
use Rattle.matroid.specs.Questions.{marked}
use Rattle.matroid.proofs.Marks.{Showing}
use Rattle.walk.specs.Stages.{lower}
use Rattle.walk.proofs.ground.Ground.keep_lower.Given as goal

abbrev pub invariant-loop-i : goal.invariant-loop-i
invariant-loop-i l = Showing (lower (sheet l.self.entries.now) l.high (marked l.initial.marks)) l.initial.marks l.marks l.i
