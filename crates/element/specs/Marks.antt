-- How many marks stand for a set of elements. Assumes nothing.
use Rattle.std.specs.Prelude.{ℕ}

-- the marks of a set: one for each number that an element can have
abbrev pub all_marks : ℕ
all_marks = 256
