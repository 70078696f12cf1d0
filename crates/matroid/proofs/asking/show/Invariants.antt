use Rattle.matroid.specs.Sets.{cut}
use Rattle.matroid.specs.Questions.{marked}
use Rattle.matroid.proofs.Marks.{Showing}
use Rattle.matroid.proofs.asking.show.Given as goal

abbrev pub invariant-loop-k : goal.invariant-loop-k
invariant-loop-k l = Showing (cut l.n (marked l.members)) l.initial.marks l.marks l.k
