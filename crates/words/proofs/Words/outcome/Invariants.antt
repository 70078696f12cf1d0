use Rattle.words.specs.Reductions.{ReducedBy}
use Rattle.words.proofs.Words.outcome.Given as goal

abbrev pub invariant-loop-i : goal.invariant-loop-i
invariant-loop-i l = ReducedBy l.self.words.list.items l.set l.i l.table
