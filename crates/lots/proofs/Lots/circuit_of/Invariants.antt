use Rattle.std.proofs.Common.{◌≡◌, ℕ, ◌<◌, length}
use Rattle.element.specs.Marks.{all_marks}
use Rattle.matroid.specs.Sets.{with}
use Rattle.matroid.specs.Questions.{marked}
use Rattle.kinds.specs.Kinds.{within_lot}
use Rattle.kinds.specs.Lists.{at}
use Rattle.lots.proofs.Lots.circuit_of.Given as goal

abbrev pub invariant-loop-k : goal.invariant-loop-k
invariant-loop-k l =
    ((j : ℕ) → j < l.k → marked l.marks j ≡ within_lot (at l.self.lots.list.items) (with (marked l.set) l.e) (at l.self.lots.list.items l.e) j)
    × (length l.marks ≡ all_marks)
