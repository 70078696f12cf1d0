-- Matroids: which sets of elements are independent. Assumes nothing.
use Rattle.std.specs.Prelude.{◌≡◌, ℕ, ◌<◌, Bool, true, false}
use Rattle.matroid.specs.Sets.{Elements, nothing, with, Part, count}

-- the elements are the numbers below the size; the test says which sets of them are independent
pub record Meaning : Type 0 where
  pub size : ℕ
  pub independent : Elements → Bool

-- what makes it a matroid. Only the members below the size count
pub record Laws (m : Meaning) : Type 0 where
  -- the empty set is independent
  pub none : m.independent nothing ≡ true
  -- a part of an independent set is independent
  pub part : (S T : Elements) → Part m.size S T → m.independent T ≡ true → m.independent S ≡ true
  -- of two independent sets, the smaller can take a member of the larger and stay independent
  pub exchange : (S T : Elements) → m.independent S ≡ true → m.independent T ≡ true → count m.size S < count m.size T
      → (x : ℕ) × (x < m.size) × (T x ≡ true) × (S x ≡ false) × (m.independent (with S x) ≡ true)

-- the matroid of n elements in which every set is independent
abbrev pub free : ℕ → Meaning
free n = record { size = n; independent = λ S. true }
