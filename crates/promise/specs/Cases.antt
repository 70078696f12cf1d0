-- Worked cases: what the walk makes of small sheets. Assumes nothing.
use Rattle.std.specs.Prelude.{◌≡◌, ℕ, zero, suc, Bool, true, false, List, [], ◌∷◌, ◌++◌, slice_index, slice_index_or}
use Rattle.matroid.specs.Sets.{Elements}
use Rattle.matroid.specs.Matroids.{Meaning}
use Rattle.kinds.specs.Kinds.{words, routes, lots}
use Rattle.promise.specs.Walks.{settled, open_at, walk, topmost, rival}
use Rattle.entry.specs.Entries.{Entry, Known, Range}

-- the tests of the elements below n, in their order
abbrev pub marks : ℕ → Elements → List Bool
marks zero K = []
marks (suc n) K = marks n K ++ (K n ∷ [])

-- what a walk shows: the kept set, or the pair f and g of an open circuit
pub data Shown : Type 0 where
  keeps : List Bool → Shown
  prices : ℕ → ℕ → Shown

-- the walk over a sheet that is written out
abbrev pub shows : Meaning → List Entry → Shown
shows m es =
    let E : ℕ → Entry = λ i. slice_index_or es i (Known 0) in
    elim (walk m E) [
      | settled K ↦ keeps (marks m.size K)
      | open_at C ↦ prices (topmost m.size E C) (rival m.size E C (topmost m.size E C))
    ]

-- the number at place i of the list
abbrev pub nth : List ℕ → ℕ → ℕ
nth xs i = slice_index xs i

-- routes 0 and 1 between places 0 and 1
abbrev pub parallel : Meaning
parallel = routes 2 2 (nth (0 ∷ 0 ∷ [])) (nth (1 ∷ 1 ∷ []))

-- routes between places 0 and 1, 1 and 2, 0 and 2
abbrev pub triangle : Meaning
triangle = routes 3 3 (nth (0 ∷ 1 ∷ 0 ∷ [])) (nth (1 ∷ 2 ∷ 2 ∷ []))

-- n elements in one lot of the cap c
abbrev pub one_lot : ℕ → ℕ → Meaning
one_lot n c = lots n (λ i. 0) (λ j. c)

-- the twelve cases
pub record Worked : Type 0 where
  -- a range that ends where the other's price stands is kept
  pub below : shows parallel (Range 3 5 ∷ Known 5 ∷ []) ≡ keeps (true ∷ false ∷ [])
  -- a range that begins at the other's price is dropped
  pub above : shows parallel (Range 3 5 ∷ Known 3 ∷ []) ≡ keeps (false ∷ true ∷ [])
  -- ranges that only meet are told apart
  pub meeting : shows parallel (Range 3 5 ∷ Range 5 8 ∷ []) ≡ keeps (true ∷ false ∷ [])
  -- of equal prices the lower number is kept
  pub equal : shows parallel (Known 4 ∷ Known 4 ∷ []) ≡ keeps (true ∷ false ∷ [])
  -- a price inside the other's range
  pub amid : shows parallel (Range 3 5 ∷ Known 4 ∷ []) ≡ prices 0 1
  -- ranges that overlap: the one with the larger high is priced first
  pub overlapping : shows parallel (Range 3 6 ∷ Range 5 8 ∷ []) ≡ prices 1 0
  -- of equal ranges the lower number is priced first
  pub twins : shows parallel (Range 3 5 ∷ Range 3 5 ∷ []) ≡ prices 0 1
  -- in a triangle the rival is the lowest number
  pub three : shows triangle (Range 2 6 ∷ Range 3 7 ∷ Range 4 9 ∷ []) ≡ prices 2 0
  -- a known rival goes before a lower number
  pub known_rival : shows (one_lot 3 2) (Range 1 4 ∷ Range 2 5 ∷ Known 4 ∷ []) ≡ prices 1 2
  -- a lot that takes none
  pub full : shows (one_lot 1 0) (Known 1 ∷ []) ≡ keeps (false ∷ [])
  -- the words 110, 011 and 101
  pub xor : shows (words 3 (nth (6 ∷ 3 ∷ 5 ∷ []))) (Known 1 ∷ Known 2 ∷ Known 3 ∷ []) ≡ keeps (true ∷ true ∷ false ∷ [])
  -- no elements
  pub empty : shows (lots 0 (λ i. 0) (λ j. 0)) [] ≡ keeps []
