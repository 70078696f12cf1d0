-- A sheet as a value, the bytes that it is written as, and when it is legal. Assumes nothing.
--     written s      the bytes of the sheet s
--     Legal s        s is within the limits: counts, numbers, names, ranges, references, word lengths, records, length
use Rattle.std.specs.Prelude.{◌≡◌, ℕ, suc, ◌^◌, ◌<◌, ◌≤◌, Bool, true, cond, ◌&&◌, ◌||◌, List, [], ◌∷◌, ◌++◌, map, length, codes, decimal, nat_le}
use Rattle.std.specs.List.{flat_map, AllByRecursion}
use Rattle.entry.specs.Entries.{Entry, Known, Range}

-- ## The limits

-- the most bytes that a sheet has
abbrev pub most_bytes : ℕ
most_bytes = 65536

-- the most places, lots, elements or recorded prices
abbrev pub most_lines : ℕ
most_lines = 255

-- the most lamps; there is at least one
abbrev pub most_lamps : ℕ
most_lamps = 64

-- the most bytes of a name; there is at least one
abbrev pub most_letters : ℕ
most_letters = 12

-- ## What a sheet is

-- a name is a list of bytes
abbrev pub Name : Type 0
Name = List ℕ

-- an element is its entry and its tail, which says what it joins or where it belongs
abbrev pub Element : Type 0 → Type 0
Element T = Entry × T

-- a recorded price is an element's number and the price
abbrev pub Recorded : Type 0
Recorded = ℕ × ℕ

-- what the three kinds share, over a line P of the first section and the tail T of an element
pub record Body (P T : Type 0) : Type 0 where
  pub allowance : ℕ
  pub places : List P
  pub elements : List (Element T)
  pub recorded : List Recorded

-- routes: names of places, and two place numbers an element. lots: names with caps, and a lot number an element.
-- words: names of lamps, and a word an element, which is one bit for each lamp
pub data Sheet : Type 0 where
  routes : Body Name (ℕ × ℕ) → Sheet
  lots : Body (Name × ℕ) ℕ → Sheet
  words : Body Name (List Bool) → Sheet

-- ## How it is written

-- a field with the space that parts it from the next
abbrev pub spaced : List ℕ → List ℕ
spaced w = w ++ (32 ∷ [])

-- a field with the newline that ends its line
abbrev pub ended : List ℕ → List ℕ
ended w = w ++ (10 ∷ [])

-- a price or an end of a range
abbrev pub price_text : ℕ → List ℕ
price_text p = decimal p

-- a lot: its name and its cap
abbrev pub lot_text : Name × ℕ → List ℕ
lot_text l = spaced l.0 ++ ended (decimal l.1)

-- a known price, or the two ends of a range
abbrev pub entry_text : Entry → List ℕ
entry_text (Known p) = spaced (codes "k") ++ spaced (price_text p)
entry_text (Range low high) = spaced (codes "r") ++ (spaced (price_text low) ++ spaced (price_text high))

-- the two places of a route
abbrev pub route_text : ℕ × ℕ → List ℕ
route_text r = spaced (decimal r.0) ++ ended (decimal r.1)

-- the lot of an element
abbrev pub lot_number_text : ℕ → List ℕ
lot_number_text k = ended (decimal k)

-- a bit of a word
abbrev pub bit_letter : Bool → ℕ
bit_letter b = cond b 49 48

-- a word, with nothing between its bits
abbrev pub word_text : List Bool → List ℕ
word_text w = ended (map bit_letter w)

-- an element: its entry and its tail
abbrev pub element_text : {T : Type 0} → (T → List ℕ) → Element T → List ℕ
element_text tail e = entry_text e.0 ++ tail e.1

-- a recorded price: its element and the price
abbrev pub recorded_text : Recorded → List ℕ
recorded_text r = spaced (decimal r.0) ++ ended (price_text r.1)

-- a section: the line with its count, and its lines
abbrev pub section : {A : Type 0} → (A → List ℕ) → List A → List ℕ
section line xs = ended (decimal (length xs)) ++ flat_map line xs

-- the allowance, which ends the first line, and the three sections
abbrev pub body_text : {P T : Type 0} → (P → List ℕ) → (T → List ℕ) → Body P T → List ℕ
body_text place tail b =
    ended (decimal b.allowance) ++
    (section place b.places ++ (section (element_text tail) b.elements ++ section recorded_text b.recorded))

-- a whole sheet
abbrev pub written : Sheet → List ℕ
written (routes b) = spaced (codes "routes") ++ body_text ended route_text b
written (lots b) = spaced (codes "lots") ++ body_text lot_text lot_number_text b
written (words b) = spaced (codes "words") ++ body_text ended word_text b

-- ## What is legal

-- a number is at most 4294967295
abbrev pub Number : ℕ → Type 0
Number n = n < 2 ^ 32

-- a letter a to z or a digit
abbrev pub name_byte : ℕ → Bool
name_byte b = (nat_le 97 b && nat_le b 122) || (nat_le 48 b && nat_le b 57)

-- whether each byte passes the test
abbrev pub each : (ℕ → Bool) → List ℕ → Bool
each test [] = true
each test (b ∷ bs) = test b && each test bs

-- 1 to 12 letters and digits
abbrev pub is_name : List ℕ → Bool
is_name w = nat_le 1 (length w) && (nat_le (length w) most_letters && each name_byte w)

-- the name of a place or a lamp
abbrev pub NameOk : Name → Type 0
NameOk w = is_name w ≡ true

-- a lot's name and cap
abbrev pub LotOk : Name × ℕ → Type 0
LotOk l = NameOk l.0 × Number l.1

-- a price, or ends of which the low one is below the high one
abbrev pub EntryOk : Entry → Type 0
EntryOk (Known p) = Number p
EntryOk (Range low high) = (low < high) × Number high

-- the tail of an element, where the first section has n lines: places that are there,
abbrev pub RouteOk : ℕ → ℕ × ℕ → Type 0
RouteOk n r = (r.0 < n) × (r.1 < n)

-- a lot that is there,
abbrev pub LotNumberOk : ℕ → ℕ → Type 0
LotNumberOk n k = k < n

-- or a bit for each lamp
abbrev pub WordOk : ℕ → List Bool → Type 0
WordOk n w = length w ≡ n

-- the elements of the records rise strictly, from `from` on
abbrev pub Rising : ℕ → List Recorded → Type 0
Rising from [] = Unit {0}
Rising from (r ∷ rs) = (from ≤ r.0) × Rising (suc r.0) rs

-- a body whose first section has `least` to `most` lines
pub record LegalBody {P T : Type 0} (PlaceOk : P → Type 0) (least most : ℕ) (TailOk : ℕ → T → Type 0) (b : Body P T) : Type 0 where
  pub allowance : Number b.allowance
  pub at_least : least ≤ length b.places
  pub at_most : length b.places ≤ most
  pub places : AllByRecursion PlaceOk b.places
  pub elements_most : length b.elements ≤ most_lines
  pub elements : AllByRecursion (λ e. EntryOk e.0 × TailOk (length b.places) e.1) b.elements
  pub recorded_most : length b.recorded ≤ most_lines
  pub recorded : AllByRecursion (λ r. (r.0 < length b.elements) × Number r.1) b.recorded
  pub rising : Rising 0 b.recorded

-- within the limits, whatever its length
abbrev pub Within : Sheet → Type 0
Within (routes b) = LegalBody NameOk 0 most_lines RouteOk b
Within (lots b) = LegalBody LotOk 0 most_lines LotNumberOk b
Within (words b) = LegalBody NameOk 1 most_lamps WordOk b

-- and not too long
abbrev pub Legal : Sheet → Type 0
Legal s = Within s × (length (written s) ≤ most_bytes)
