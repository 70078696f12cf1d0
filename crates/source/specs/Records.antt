-- Prices that are written down. Assumes nothing.
--     recorded ls e   the price of e in the lines ls
--     tabled t e      the price of e in the table t
--     blank           no prices
--     posted f e p    the prices f, with p at e
use Rattle.std.specs.List.{find}
use Rattle.std.specs.Option.{option_map}
use Rattle.std.specs.Prelude.{ℕ, cond, List, None, Option, ◌==◌, slice_index_or}
use Rattle.element.specs.declared.Line.{Line}
use Rattle.source.specs.declared.table.Table.{Table}

-- the price of the first line for e, or none
abbrev pub recorded : List Line → ℕ → Option ℕ
recorded ls e = option_map (λ l. l.price) (find (λ l. l.element == e) ls)

-- what stands at the place e, and none past the last place
abbrev pub listed : List (Option ℕ) → ℕ → Option ℕ
listed places e = slice_index_or places e None

-- the prices in a table
abbrev pub tabled : Table → ℕ → Option ℕ
tabled t = listed t.prices

-- no prices
abbrev pub blank : ℕ → Option ℕ
blank e = None

-- the prices with p at e, and all else as it was
abbrev pub posted : (ℕ → Option ℕ) → ℕ → Option ℕ → ℕ → Option ℕ
posted prices e p i = cond (i == e) p (prices i)
