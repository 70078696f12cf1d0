-- What is known of a price. Assumes nothing.
use Rattle.std.specs.Prelude.{ℕ, ◌<◌, Bool, true, false, ◌&&◌, nat_lt}

-- a price, or the low and the high end of an open range, to which neither end belongs
pub data Entry : Type 0 where
  Known : ℕ → Entry
  Range : ℕ → ℕ → Entry

-- the low end of an entry; of a known one, its price
abbrev pub low : Entry → ℕ
low (Known p) = p
low (Range l h) = l

-- the high end of an entry; of a known one, its price
abbrev pub high : Entry → ℕ
high (Known p) = p
high (Range l h) = h

-- whether the entry is a price
abbrev pub known : Entry → Bool
known (Known p) = true
known (Range l h) = false

-- whether p lies strictly inside the range; never for a known entry
abbrev pub inside : Entry → ℕ → Bool
inside (Known q) p = false
inside (Range l h) p = nat_lt l p && nat_lt p h

-- a range's low is below its high
abbrev pub Proper : Entry → Type 0
Proper (Known p) = Unit {0}
Proper (Range l h) = l < h
