-- What holds in every matroid. Assumes nothing.
use Rattle.std.specs.Prelude.{◌≡◌, ℕ, ◌<◌, ◌≤◌, true, false, ◌⊎◌, ◌↔◌, ◌≢◌}
use Rattle.matroid.specs.Sets.{Elements, with, joined, Part, count, under}
use Rattle.matroid.specs.Matroids.{Meaning, Laws, free}
use Rattle.matroid.specs.Bases.{Base, Cheapest, Greedy}
use Rattle.matroid.specs.Circuits.{Circuit, Closes, circuit, IsCircuit}

-- the laws can be met: where every set is independent they hold
abbrev pub FreeMatroid : Type 0
FreeMatroid = (n : ℕ) → Laws (free n)

-- an independent set: A with members of B, as many in all as B has
pub record Augmented (m : Meaning) (A B : Elements) : Type 0 where
  pub set : Elements
  pub has : Part m.size A set
  pub inside : Part m.size set (joined A B)
  pub independent : m.independent set ≡ true
  pub as_many : count m.size set ≡ count m.size B

-- an independent set can be enlarged by members of another independent set until it has as many members
abbrev pub Augmentation : Type 0
Augmentation =
    (m : Meaning) → Laws m → (A B : Elements) → m.independent A ≡ true → m.independent B ≡ true
    → count m.size A ≤ count m.size B → Augmented m A B

-- all bases have one size
abbrev pub OneRank : Type 0
OneRank = (m : Meaning) → Laws m → (A B : Elements) → Base m A → Base m B → count m.size A ≡ count m.size B

-- at every threshold no independent set has more members below it than B
abbrev pub MostUnder : Meaning → (ℕ → ℕ) → Elements → Type 0
MostUnder m v B = (t : ℕ) (I : Elements) → m.independent I ≡ true → count m.size (under v t I) ≤ count m.size (under v t B)

-- a base is cheapest exactly when at every threshold no independent set has more members below it
abbrev pub CheapestByThresholds : Type 0
CheapestByThresholds = (m : Meaning) → Laws m → (v : ℕ → ℕ) (B : Elements) → Base m B → Cheapest m v B ↔ MostUnder m v B

-- a greedy set is a cheapest base
abbrev pub GreedyCheapest : Type 0
GreedyCheapest = (m : Meaning) → Laws m → (v : ℕ → ℕ) (K : Elements) → Greedy m v K → Cheapest m v K

-- the strict maximum of a circuit is in no cheapest base
abbrev pub StrictMaximum : Type 0
StrictMaximum =
    (m : Meaning) → Laws m → (v : ℕ → ℕ) (S : Elements) (e : ℕ) (C : Elements) → Circuit m S e C
    → (f : ℕ) → f < m.size → C f ≡ true → ((x : ℕ) → x < m.size → C x ≡ true → (x ≢ f) → v x < v f)
    → (B : Elements) → Cheapest m v B → B f ≡ false

-- f is in the span of X: a member of X, or dependent on it
abbrev pub Spanned : Meaning → Elements → ℕ → Type 0
Spanned m X f = (X f ≡ true) ⊎ (m.independent (with X f) ≡ false)

-- what is in the span of an independent set that lies in the span of X is in the span of X
abbrev pub SpanOfSpan : Type 0
SpanOfSpan =
    (m : Meaning) → Laws m → (X A : Elements) → m.independent A ≡ true → ((d : ℕ) → d < m.size → A d ≡ true → Spanned m X d)
    → (f : ℕ) → f < m.size → Spanned m A f → Spanned m X f

-- the formula gives a circuit, and there is no other
abbrev pub OneCircuit : Type 0
OneCircuit =
    (m : Meaning) → Laws m → (S : Elements) (e : ℕ) → Closes m S e
    → Circuit m S e (circuit m S e) × ((C : Elements) → Circuit m S e C → IsCircuit m S e C)

-- what holds in every matroid, and that there are some
pub record Theory : Type 0 where
  pub free : FreeMatroid
  pub augmentation : Augmentation
  pub rank : OneRank
  pub thresholds : CheapestByThresholds
  pub greedy : GreedyCheapest
  pub maximum : StrictMaximum
  pub span : SpanOfSpan
  pub circuit : OneCircuit
