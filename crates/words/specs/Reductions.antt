-- Words reduced by elimination: each member of a set is left with a one at a bit of its own. Assumes nothing.
use Rattle.std.specs.Prelude.{◌≡◌, ℕ, ◌<◌, Bool, true, false, not, ◌&&◌, List, length, ◌==◌, Option, Some, None, is_some, unwrap_or, Ok, Err, Result, slice_index_or}
use Rattle.fault.specs.declared.Fault.{Fault}
use Rattle.fault.specs.declared.Fault.TheVariants.{DependentSet}
use Rattle.matroid.specs.Sets.{Elements, cut}
use Rattle.matroid.specs.Questions.{marked}
use Rattle.kinds.specs.Kinds.{odd, bit}
use Rattle.kinds.specs.Lists.{at, words_of}
use Rattle.words.specs.declared.elimination.Row.{Row}
use Rattle.words.specs.declared.elimination.Table.{Table}

-- at each bit an even number of the words of P have a one
abbrev pub Cancels : ℕ → (ℕ → ℕ) → Elements → Type 0
Cancels n v P = (c : ℕ) → c < 64 → odd n (λ i. P i && bit (v i) c) ≡ false

-- the same sets cancel
pub record Equivalent (n : ℕ) (w v : ℕ → ℕ) : Type 0 where
  pub forth : (P : Elements) → Cancels n w P → Cancels n v P
  pub back : (P : Elements) → Cancels n v P → Cancels n w P

-- the bits of r are those of w but for bit c, which is 0
abbrev pub Cleared : ℕ → ℕ → ℕ → Type 0
Cleared w c r = (k : ℕ) → k < 64 → bit r k ≡ (not (k == c) && bit w k)

-- the words w are reduced to v, in which each member k of S below i has a one at bit p k alone; u has those bits and no other
pub record Reduced (n : ℕ) (w v : ℕ → ℕ) (S : Elements) (i : ℕ) (p : ℕ → ℕ) (u : ℕ → Bool) : Type 0 where
  pub equivalent : Equivalent n w v
  pub below : (k : ℕ) → k < i → S k ≡ true → p k < 64
  pub units : (k : ℕ) → k < i → S k ≡ true → (c : ℕ) → c < 64 → bit (v k) c ≡ (c == p k)
  pub used : (k : ℕ) → k < i → S k ≡ true → u (p k) ≡ true
  pub pivot : (c : ℕ) → c < 64 → u c ≡ true → (k : ℕ) × (k < i) × (S k ≡ true) × (p k ≡ c)
  pub apart : (j k : ℕ) → j < i → k < i → S j ≡ true → S k ≡ true → p j ≡ p k → j ≡ k

-- the word of row k
abbrev pub word_at : List Row → ℕ → ℕ
word_at rows k = (slice_index_or rows k (record { word = 0; pivot = None })).word

-- the bit that element k is taken in by, if it is
abbrev pub pivot_of : List Row → ℕ → Option ℕ
pivot_of rows k = (slice_index_or rows k (record { word = 0; pivot = None })).pivot

-- that bit, or 0
abbrev pub pivot_at : List Row → ℕ → ℕ
pivot_at rows k = unwrap_or (pivot_of rows k) 0

-- the table has the words ws reduced by the first i elements of the set, which are taken in, and no other is
pub record ReducedBy (ws : List ℕ) (set : List Bool) (i : ℕ) (t : Table) : Type 0 where
  pub reduced : Reduced (length ws) (at ws) (word_at t.rows) (marked set) i (pivot_at t.rows) (marked t.used)
  pub taken : (k : ℕ) → k < length ws → is_some (pivot_of t.rows k) ≡ cut i (marked set) k

-- each one of the word is at a bit that is used
abbrev pub Covered : ℕ → (ℕ → Bool) → Type 0
Covered w u = (c : ℕ) → c < 64 → bit w c ≡ true → u c ≡ true

-- the lowest one of the word at a bit that is not used; where there is none, each one is at a bit that is used
abbrev pub FreeBit : ℕ → (ℕ → Bool) → Option ℕ → Type 0
FreeBit w u None = Covered w u
FreeBit w u (Some c) = (c < 64) × (bit w c ≡ true) × (u c ≡ false) × ((k : ℕ) → k < c → bit w k ≡ true → u k ≡ true)

-- the table has the words reduced by the first i elements of the set, or the set is dependent
abbrev pub ReducedOr : List ℕ → List Bool → ℕ → Table → Result (Unit {0}) Fault → Type 0
ReducedOr ws set i t (Ok _) = ReducedBy ws set i t
ReducedOr ws set i t (Err f) = (f ≡ DependentSet) × ((words_of ws).independent (marked set) ≡ false)
