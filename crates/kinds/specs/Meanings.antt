-- What independence and circuits are in each kind, in its own words. Assumes nothing.
use Rattle.std.specs.Prelude.{◌≡◌, ℕ, zero, suc, ◌+◌, ◌^◌, ◌<◌, ◌≤◌, true, false, cond, ◌&&◌, ◌↔◌, bit_xor}
use Rattle.matroid.specs.Sets.{Elements, with, Part, count}
use Rattle.matroid.specs.Matroids.{Laws}
use Rattle.matroid.specs.Circuits.{Closes, IsCircuit}
use Rattle.kinds.specs.Kinds.{odd, Columns, binary, words, touches, routes, within_lot, lots}

-- P is a part of S with a member, all below n
pub record NonEmptyPart (n : ℕ) (S P : Elements) : Type 0 where
  pub member : ℕ
  pub below : member < n
  pub has : P member ≡ true
  pub inside : Part n P S

-- P is such a part of S, and its vectors add up to zero
pub record Dependency (n d : ℕ) (column : Columns) (S P : Elements) : Type 0 where
  pub some : NonEmptyPart n S P
  pub even : (c : ℕ) → c < d → odd n (λ i. P i && column i c) ≡ false

-- the xor of the words of the members of P below n
abbrev pub xored : ℕ → (ℕ → ℕ) → Elements → ℕ
xored zero w P = 0
xored (suc n) w P = bit_xor (cond (P n) (w n) 0) (xored n w P)

-- P is such a part of S, and the xor of its words is 0
pub record XorZero (n : ℕ) (w : ℕ → ℕ) (S P : Elements) : Type 0 where
  pub some : NonEmptyPart n S P
  pub cancelled : xored n w P ≡ 0

-- P is such a part of S, and touches each of the d places an even number of times
pub record EvenPart (n d : ℕ) (a b : ℕ → ℕ) (S P : Elements) : Type 0 where
  pub some : NonEmptyPart n S P
  pub twice : (c : ℕ) → c < d → (k : ℕ) × (touches n a b P c ≡ k + k)

-- no lot has more members than its cap
abbrev pub WithinCaps : ℕ → (ℕ → ℕ) → (ℕ → ℕ) → Elements → Type 0
WithinCaps n lot cap S = (j : ℕ) → count n (within_lot lot S j) ≤ cap j

-- the kinds are matroids
pub record KindsAreMatroids : Type 0 where
  pub of_binary : (n d : ℕ) (column : Columns) → Laws (binary n d column)
  pub of_words : (n : ℕ) (w : ℕ → ℕ) → Laws (words n w)
  pub of_routes : (n d : ℕ) (a b : ℕ → ℕ) → Laws (routes n d a b)
  pub of_lots : (n : ℕ) (lot cap : ℕ → ℕ) → Laws (lots n lot cap)

-- the test of each kind says of a set that it has no dependency, or that its lots are within their caps
pub record IndependenceInWords : Type 0 where
  pub of_binary : (n d : ℕ) (column : Columns) (S : Elements)
      → ((binary n d column).independent S ≡ true) ↔ ((P : Elements) → Dependency n d column S P → ⊥)
  pub of_words : (n : ℕ) (w : ℕ → ℕ) → ((i : ℕ) → i < n → w i < 2 ^ 64) → (S : Elements)
      → ((words n w).independent S ≡ true) ↔ ((P : Elements) → XorZero n w S P → ⊥)
  pub of_routes : (n d : ℕ) (a b : ℕ → ℕ) (S : Elements)
      → ((routes n d a b).independent S ≡ true) ↔ ((P : Elements) → EvenPart n d a b S P → ⊥)
  pub of_lots : (n : ℕ) (lot cap : ℕ → ℕ) (S : Elements) → ((lots n lot cap).independent S ≡ true) ↔ WithinCaps n lot cap S

-- whatever dependency there is in an independent S with e is the circuit; in lots it is e with the members of its lot
pub record CircuitsInWords : Type 0 where
  pub of_binary : (n d : ℕ) (column : Columns) (S : Elements) (e : ℕ) → (binary n d column).independent S ≡ true
      → (C : Elements) → Dependency n d column (with S e) C → IsCircuit (binary n d column) S e C
  pub of_words : (n : ℕ) (w : ℕ → ℕ) (S : Elements) (e : ℕ) → (words n w).independent S ≡ true
      → (C : Elements) → XorZero n w (with S e) C → IsCircuit (words n w) S e C
  pub of_routes : (n d : ℕ) (a b : ℕ → ℕ) (S : Elements) (e : ℕ) → (routes n d a b).independent S ≡ true
      → (C : Elements) → EvenPart n d a b (with S e) C → IsCircuit (routes n d a b) S e C
  pub of_lots : (n : ℕ) (lot cap : ℕ → ℕ) (S : Elements) (e : ℕ) → Closes (lots n lot cap) S e
      → IsCircuit (lots n lot cap) S e (within_lot lot (with S e) (lot e))

-- what holds of the three kinds
pub record Theory : Type 0 where
  pub laws : KindsAreMatroids
  pub independence : IndependenceInWords
  pub circuits : CircuitsInWords
