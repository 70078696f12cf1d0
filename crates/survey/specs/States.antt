-- The state of a survey, as the code's tables hold it. Assumes nothing.
use Rattle.std.specs.Prelude.{ℕ, Bool, cond, List, vec_items, nat_lt}
use Rattle.entry.specs.declared.Entry.{Entry as Value}
use Rattle.entry.specs.Entries.{Entry, Known}
use Rattle.entry.specs.Held.{sheet}
use Rattle.source.specs.Supplies.{Supply}
use Rattle.promise.specs.Surveys.{Source, State}
use Rattle.survey.specs.declared.tables.Tables.{Tables}

-- the tables as a state
abbrev pub state : Tables → State
state t = record { entries = sheet t.entries; ledger = vec_items t.lines; pending = t.pending }

-- a source as a survey meets it, by what its type says that it means and keeps
abbrev pub sourced : {X : Type 0} → (X → Supply) → (X → ℕ → Bool) → X → Source
sourced meaning keeps x = record { supply = meaning x; keeps = keeps x }

-- the entries that a survey of n elements starts with: those of the list, and 0 is known of any other
abbrev pub listed : ℕ → List Value → ℕ → Entry
listed n es i = cond (nat_lt i n) (sheet es i) (Known 0)
