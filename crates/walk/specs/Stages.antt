-- The stages of a walk: what is taken and what is kept after some of its turns. Assumes nothing.
--     Reached m E T K     the walk over E comes to a stage at which T is taken and K of it kept
--     Stops m E T K w     at that stage nothing more is taken, and the walk ends as w says
--     standing n E x h T S   what stays of S, a part of the taken T, when x of the high h comes to have the entry that E has
use Rattle.std.specs.Prelude.{◌≡◌, ℕ, ◌<◌, Bool, true, false, cond, not, ◌&&◌, ◌==◌, nat_lt}
use Rattle.entry.specs.Entries.{Entry, low}
use Rattle.matroid.specs.Sets.{Elements, every, nothing, with, without}
use Rattle.matroid.specs.Matroids.{Meaning}
use Rattle.matroid.specs.Circuits.{circuit}
use Rattle.promise.specs.Walks.{Ended, settled, open_at, earlier, leads, topped}

-- e is the earliest element that is not taken
pub record Next (m : Meaning) (E : ℕ → Entry) (T : Elements) (e : ℕ) : Type 0 where
  pub below : e < m.size
  pub leading : leads m.size E T e ≡ true

-- nothing is taken at first; then one element after another is kept, or dropped where it tops its circuit
pub data Reached (m : Meaning) (E : ℕ → Entry) : Elements → Elements → Type 0 where
  begins : Reached m E nothing nothing
  keeps : (T K : Elements) (e : ℕ) → Reached m E T K → Next m E T e → m.independent (with K e) ≡ true → Reached m E (with T e) (with K e)
  drops : (T K : Elements) (e : ℕ) → Reached m E T K → Next m E T e → m.independent (with K e) ≡ false
      → topped m.size E (circuit m K e) e ≡ true → Reached m E (with T e) K

-- all are taken, or the next to be taken closes a circuit that it does not top
pub data Stops (m : Meaning) (E : ℕ → Entry) (T K : Elements) : Ended → Type 0 where
  settles : ((i : ℕ) → i < m.size → T i ≡ true) → Stops m E T K (settled K)
  opens : (e : ℕ) → Next m E T e → m.independent (with K e) ≡ false → topped m.size E (circuit m K e) e ≡ false → Stops m E T K (open_at (circuit m K e))

-- the members of S whose low is below h
abbrev pub lower : (ℕ → Entry) → ℕ → Elements → Elements
lower E h S i = S i && nat_lt (low (E i)) h

-- whether i is another member of S than x, and later
abbrev pub overtaken : (ℕ → Entry) → ℕ → Elements → ℕ → Bool
overtaken E x S i = S i && (not (i == x) && earlier E x i)

-- whether x is earlier than no other member of S below n
abbrev pub behind : ℕ → (ℕ → Entry) → ℕ → Elements → Bool
behind n E x S = every n (λ i. not (overtaken E x S i))

-- the members of S whose low is below h; without x, where it is behind those of T
abbrev pub standing : ℕ → (ℕ → Entry) → ℕ → ℕ → Elements → Elements → Elements
standing n E x h T S = cond (behind n E x (lower E h T)) (without (lower E h S) x) (lower E h S)
