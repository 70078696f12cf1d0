use Rattle.std.proofs.Common.{◌≡◌, ◌-◌, length}
use Rattle.element.specs.Marks.{all_marks}
use Rattle.entry.specs.Held.{sheet}
use Rattle.matroid.specs.Sets.{count}
use Rattle.matroid.specs.Questions.{marked}
use Rattle.walk.specs.Stages.{Reached}
use Rattle.walk.specs.Walked.{Along}
use Rattle.walk.proofs.progress.Progress.finish.Given as goal

abbrev pub invariant-loop-e : goal.invariant-loop-e
invariant-loop-e g l =
    (length l.taken ≡ all_marks) × (length l.kept ≡ all_marks)
    × (Along (g.M.Matroid.meaning l.matroid) (sheet l.entries) l.fn.self
    → Reached (g.M.Matroid.meaning l.matroid) (sheet l.entries) (marked l.taken) (marked l.kept))

abbrev pub decreases-loop-e : goal.decreases-loop-e
decreases-loop-e g l = (g.M.Matroid.meaning l.matroid).size - count (g.M.Matroid.meaning l.matroid).size (marked l.taken)
