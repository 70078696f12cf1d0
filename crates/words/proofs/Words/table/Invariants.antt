use Rattle.std.proofs.Common.{◌≡◌, ℕ, ◌<◌, None, length}
use Rattle.element.specs.Marks.{all_marks}
use Rattle.kinds.specs.Lists.{at}
use Rattle.words.specs.Reductions.{word_at, pivot_of}
use Rattle.words.proofs.Words.table.Given as goal

abbrev pub invariant-loop-i : goal.invariant-loop-i
invariant-loop-i l = ((k : ℕ) → k < l.i → word_at l.rows k ≡ at l.self.words.list.items k) × ((k : ℕ) → k < all_marks → pivot_of l.rows k ≡ None) × (length l.rows ≡ all_marks)
