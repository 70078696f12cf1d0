-- The entries that values of the code hold. Assumes nothing.
--     held e       the entry that the value e holds
--     sheet es     the entry of each element, where es are those of the first ones
use Rattle.std.specs.Prelude.{ℕ, List, slice_index_or}
use Rattle.entry.specs.declared.Entry.{Entry as Value}
use Rattle.entry.specs.declared.Entry.TheVariants.{Known as KnownValue, Range as RangeValue}
use Rattle.entry.specs.Entries.{Entry, Known, Range}

-- a value as an entry
abbrev pub held : Value → Entry
held (KnownValue p) = Known p
held (RangeValue r) = Range r.low r.high

-- the entry of each element; those beyond the list are known at 0
abbrev pub sheet : List Value → ℕ → Entry
sheet es i = held (slice_index_or es i (KnownValue 0))
