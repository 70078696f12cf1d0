-- The largest independent sets, and the cheapest of them. Assumes nothing.
use Rattle.std.specs.Prelude.{◌≡◌, ℕ, ◌<◌, ◌≤◌, true, false}
use Rattle.matroid.specs.Sets.{Elements, with, Part, sum}
use Rattle.matroid.specs.Matroids.{Meaning}

-- an independent set that is part of no larger independent set
pub record Base (m : Meaning) (B : Elements) : Type 0 where
  pub independent : m.independent B ≡ true
  pub largest : (T : Elements) → Part m.size B T → m.independent T ≡ true → Part m.size T B

-- a base, and no base has a smaller sum of the values v
pub record Cheapest (m : Meaning) (v : ℕ → ℕ) (B : Elements) : Type 0 where
  pub base : Base m B
  pub least : (A : Elements) → Base m A → sum m.size v B ≤ sum m.size v A

-- e closes over K a dependent set in which no member is dearer than e
pub record Dearest (m : Meaning) (v : ℕ → ℕ) (K : Elements) (e : ℕ) : Type 0 where
  pub closed : Elements
  pub inside : Part m.size closed (with K e)
  pub dependent : m.independent closed ≡ false
  pub most : (x : ℕ) → x < m.size → closed x ≡ true → v x ≤ v e

-- an independent set such that each other element is the dearest of a dependent set that it closes
pub record Greedy (m : Meaning) (v : ℕ → ℕ) (K : Elements) : Type 0 where
  pub independent : m.independent K ≡ true
  pub dearest : (e : ℕ) → e < m.size → K e ≡ false → Dearest m v K e
