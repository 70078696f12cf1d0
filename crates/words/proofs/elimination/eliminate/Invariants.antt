use Rattle.std.proofs.Common.{◌≡◌, ℕ, ◌<◌, ◌≤◌, cond}
use lib.Bits.{bit_xor}
use Rattle.kinds.specs.Kinds.{bit}
use Rattle.words.specs.Reductions.{word_at, pivot_of}
use Rattle.words.proofs.elimination.eliminate.Given as goal

abbrev pub invariant-loop-row : goal.invariant-loop-row
invariant-loop-row l = record {
  done : (k : ℕ) → k < l.row-index
      → word_at l.rows k ≡ cond (bit (word_at l.initial.rows k) l.c) (bit_xor (word_at l.initial.rows k) l.rest) (word_at l.initial.rows k);
  kept : (k : ℕ) → l.row-index ≤ k → word_at l.rows k ≡ word_at l.initial.rows k;
  pivots : (k : ℕ) → pivot_of l.rows k ≡ pivot_of l.initial.rows k;
}
