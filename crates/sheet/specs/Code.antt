-- What the code holds, in the words of the sheet's form. Assumes nothing.
use Rattle.std.specs.Prelude.{ℕ, Bool, ◌&&◌, ◌||◌, List, map, length, Some, None, vec_items, Option, ◌==◌, nat_eq}
use Rattle.std.specs.Borrow.{Bor}
use Rattle.form.specs.Sheets.{Name, Element, Recorded, Body, Sheet, routes, lots, words, bit_letter, each}
use Rattle.element.specs.declared.Line.{Line}
use Rattle.entry.specs.Held.{held}
use Rattle.kinds.specs.declared.Route.{Route}
use Rattle.sheet.specs.declared.values.Body.{Body as Held}
use Rattle.sheet.specs.declared.values.ByKind.{ByKind}
use Rattle.sheet.specs.declared.values.ByKind.TheVariants.{Routes, Lots, Words}
use Rattle.sheet.specs.declared.values.ElementLine.{ElementLine}
use Rattle.sheet.specs.declared.values.Lot.{Lot}

-- what an optional value counts as
abbrev pub valued : {X A : Type 0} → (X → A) → Option X → Option A
valued value None = None
valued value (Some x) = Some (value x)

-- the bytes of a part of the sheet
abbrev pub bytes : Bor (List ℕ) → Name
bytes w = w.now

-- whether the letter is 0 or 1
abbrev pub is_bit : ℕ → Bool
is_bit b = b == 48 || b == 49

-- whether the letters are 0 or 1, one for each of n lamps
abbrev pub is_word : ℕ → List ℕ → Bool
is_word n w = length w == n && each is_bit w

-- the bits of a word, by its letters
abbrev pub ones : List ℕ → List Bool
ones w = map (λ b. nat_eq b 49) w

-- the letter that stands for a letter of a word
abbrev pub bit_of : ℕ → ℕ
bit_of b = bit_letter (b == 49)

-- a word that is a part of the sheet
abbrev pub word_of : Bor (List ℕ) → List Bool
word_of w = ones w.now

-- a value that counts as itself
abbrev pub itself : {X : Type 0} → X → X
itself x = x

-- a lot's line
abbrev pub lot_of : Lot → Name × ℕ
lot_of l = (l.name.now, l.cap)

-- the two places of a route
abbrev pub route_of : Route → ℕ × ℕ
route_of r = (r.from, r.to)

-- a recorded price
abbrev pub record_of : Line → Recorded
record_of l = (l.element, l.price)

-- an element's line
abbrev pub element_of : {X A : Type 0} → (X → A) → ElementLine X → Element A
element_of value e = (held e.entry, value e.tail)

-- a body, over what its places and tails count as
abbrev pub body_of : {X Y P T : Type 0} → (X → P) → (Y → T) → Held X Y → Body P T
body_of place tail b = record {
  allowance = b.allowance;
  places = map place (vec_items b.places);
  elements = map (element_of tail) (vec_items b.elements);
  recorded = map record_of (vec_items b.recorded);
}

-- a sheet as the code holds it
abbrev pub HeldSheet : Type 0
HeldSheet = ByKind (Held (Bor (List ℕ)) Route) (Held Lot ℕ) (Held (Bor (List ℕ)) (Bor (List ℕ)))

-- the sheet that it is
abbrev pub sheet_of : HeldSheet → Sheet
sheet_of (Routes b) = routes (body_of bytes route_of b)
sheet_of (Lots b) = lots (body_of lot_of itself b)
sheet_of (Words b) = words (body_of bytes word_of b)
