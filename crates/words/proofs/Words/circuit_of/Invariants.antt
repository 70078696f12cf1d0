use Rattle.std.proofs.Common.{false, ◌&&◌, replicate}
use Rattle.element.specs.Marks.{all_marks}
use Rattle.matroid.specs.Questions.{marked}
use Rattle.matroid.proofs.Marks.{Showing}
use Rattle.kinds.specs.Kinds.{bit}
use Rattle.words.specs.Reductions.{pivot_at}
use Rattle.words.proofs.Words.circuit_of.Given as goal

abbrev pub invariant-loop-k : goal.invariant-loop-k
invariant-loop-k l = Showing (λ j. marked l.set j && bit l.word (pivot_at l.table.rows j)) (replicate all_marks false) l.marks l.k
