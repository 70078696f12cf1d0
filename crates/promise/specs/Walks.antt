-- The walk over the elements by their low ends, and the two elements of an open circuit that are priced next. Assumes nothing.
use Rattle.std.specs.Prelude.{ℕ, zero, suc, Bool, cond, not, ◌&&◌, ◌||◌, ◌==◌, nat_le, nat_lt}
use Rattle.matroid.specs.Sets.{Elements, nothing, with, every, lowest}
use Rattle.matroid.specs.Matroids.{Meaning}
use Rattle.matroid.specs.Circuits.{circuit}
use Rattle.entry.specs.Entries.{Entry, low, high, known}

-- whether the walk takes i before j: by low, equal lows by high, equal highs by number
abbrev pub earlier : (ℕ → Entry) → ℕ → ℕ → Bool
earlier E i j =
    nat_lt (low (E i)) (low (E j))
    || (low (E i) == low (E j) && (nat_lt (high (E i)) (high (E j)) || (high (E i) == high (E j) && nat_lt i j)))

-- whether i is untaken, and earlier than every other untaken element below n
abbrev pub leads : ℕ → (ℕ → Entry) → Elements → ℕ → Bool
leads n E T i = not (T i) && every n (λ j. T j || (j == i || earlier E i j))

-- the earliest untaken element below n, or n where all are taken
abbrev pub earliest : ℕ → (ℕ → Entry) → Elements → ℕ
earliest n E T = lowest n (leads n E T)

-- how a walk ends: settled with the set that it keeps, or at a circuit that is open
pub data Ended : Type 0 where
  settled : Elements → Ended
  open_at : Elements → Ended

-- whether e tops the circuit C: every other member has its high at or below the low of e
abbrev pub topped : ℕ → (ℕ → Entry) → Elements → ℕ → Bool
topped n E C e = every n (λ x. not (C x) || (x == e || nat_le (high (E x)) (low (E e))))

-- k more elements are taken, from those not in T, with K kept so far: one that closes no circuit is kept, one that tops its circuit is dropped
abbrev pub onward : ℕ → Meaning → (ℕ → Entry) → Elements → Elements → Ended
onward zero m E T K = settled K
onward (suc k) m E T K =
    let e : ℕ = earliest m.size E T in
    cond (m.independent (with K e))
    (onward k m E (with T e) (with K e))
    (cond (topped m.size E (circuit m K e) e) (onward k m E (with T e) K) (open_at (circuit m K e)))

-- the walk over all elements
abbrev pub walk : Meaning → (ℕ → Entry) → Ended
walk m E = onward m.size m E nothing nothing

-- f: the member of C with the largest high, ties to the lowest number
abbrev pub topmost : ℕ → (ℕ → Entry) → Elements → ℕ
topmost n E C = lowest n (λ i. C i && every n (λ j. not (C j) || nat_le (high (E j)) (high (E i))))

-- whether i challenges f: another member of C, whose high is above the low of f
abbrev pub challenges : (ℕ → Entry) → Elements → ℕ → ℕ → Bool
challenges E C f i = C i && (not (i == f) && nat_lt (low (E f)) (high (E i)))

-- g: the lowest-numbered known challenger of f, or where none is known the lowest-numbered one
abbrev pub rival : ℕ → (ℕ → Entry) → Elements → ℕ → ℕ
rival n E C f =
    let k : ℕ = lowest n (λ i. challenges E C f i && known (E i)) in
    cond (nat_lt k n) k (lowest n (challenges E C f))
