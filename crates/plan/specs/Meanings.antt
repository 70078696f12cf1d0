-- The matroid of a sheet, and the numbers of its words. Assumes nothing.
--     numeral w n      the first n of the bits w as a binary number
use Rattle.std.specs.Prelude.{ℕ, zero, suc, ◌+◌, ◌*◌, ◌%◌, ◌^◌, Bool, false, cond, List, length, slice_index_or}
use Rattle.std.specs.Borrow.{Bor}
use Rattle.entry.specs.declared.Entry.{Entry as Value}
use Rattle.sheet.specs.declared.values.ElementLine.{ElementLine}
use Rattle.sheet.specs.declared.values.Lot.{Lot}
use Rattle.sheet.specs.Code.{word_of}

-- the first n bits as a binary number, of which the last 64 count
abbrev pub numeral : (ℕ → Bool) → ℕ → ℕ
numeral w zero = 0
numeral w (suc n) = (2 * numeral w n + cond (w n) 1 0) % 2 ^ 64

-- a word as a number
abbrev pub word_number : List Bool → ℕ
word_number w = numeral (λ i. slice_index_or w i false) (length w)

-- what is taken from a line: the entry of an element,
abbrev pub entry_of : {T : Type 0} → ElementLine T → Value
entry_of e = e.entry

-- its tail,
abbrev pub tail_of : {T : Type 0} → ElementLine T → T
tail_of e = e.tail

-- the cap of a lot,
abbrev pub cap_of : Lot → ℕ
cap_of l = l.cap

-- or the number of an element's word
abbrev pub number_of : ElementLine (Bor (List ℕ)) → ℕ
number_of e = word_number (word_of e.tail)
