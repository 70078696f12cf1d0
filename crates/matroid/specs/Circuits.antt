-- The circuit that an element closes over an independent set. Assumes nothing.
use Rattle.std.specs.Prelude.{◌≡◌, ℕ, ◌<◌, true, false, ◌&&◌}
use Rattle.matroid.specs.Sets.{Elements, with, without, Part}
use Rattle.matroid.specs.Matroids.{Meaning}

-- C is a dependent part of S with e, and every smaller part of C is independent
pub record Circuit (m : Meaning) (S : Elements) (e : ℕ) (C : Elements) : Type 0 where
  pub inside : Part m.size C (with S e)
  pub dependent : m.independent C ≡ false
  pub minimal : (P : Elements) → Part m.size P C → (Part m.size C P → ⊥) → m.independent P ≡ true

-- e is an element that an independent S cannot take
pub record Closes (m : Meaning) (S : Elements) (e : ℕ) : Type 0 where
  pub below : e < m.size
  pub independent : m.independent S ≡ true
  pub dependent : m.independent (with S e) ≡ false

-- the formula: the members without which S with e is independent
abbrev pub circuit : Meaning → Elements → ℕ → Elements
circuit m S e x = with S e x && m.independent (without (with S e) x)

-- C has the members below the size that the circuit of e over S has
abbrev pub IsCircuit : Meaning → Elements → ℕ → Elements → Type 0
IsCircuit m S e C = (i : ℕ) → i < m.size → C i ≡ circuit m S e i
