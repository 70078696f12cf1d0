-- How many of the entries are known. Assumes nothing.
use Rattle.std.specs.Prelude.{ℕ, ◌+◌, cond, List, [], ◌∷◌}
use Rattle.entry.specs.declared.Entry.{Entry}
use Rattle.entry.specs.Entries.{known}
use Rattle.entry.specs.Held.{held}

-- the known ones of a list
abbrev pub knowns : List Entry → ℕ
knowns [] = 0
knowns (x ∷ xs) = cond (known (held x)) 1 0 + knowns xs
