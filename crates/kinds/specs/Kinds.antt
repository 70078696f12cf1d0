-- Three kinds of matroid: routes between places, lots with caps, and words under xor. Assumes nothing.
--     binary n d column   n vectors over two elements
--     routes n d a b      n routes between d places
--     lots n lot cap      n elements in lots
--     words n w           n words of 64 bits
use Rattle.std.specs.Prelude.{ℕ, zero, suc, ◌+◌, ◌/◌, ◌%◌, ◌^◌, Bool, true, false, cond, not, ◌&&◌, ◌||◌, ◌==◌, nat_le}
use Rattle.matroid.specs.Sets.{Elements, nothing, with, count, sum, every}
use Rattle.matroid.specs.Matroids.{Meaning}

-- whether exactly one of the two holds
abbrev pub differ : Bool → Bool → Bool
differ true b = not b
differ false b = b

-- whether the test holds of an odd number of the numbers below n
abbrev pub odd : ℕ → (ℕ → Bool) → Bool
odd zero f = false
odd (suc n) f = differ (f n) (odd n f)

-- whether the number is even
abbrev pub even : ℕ → Bool
even zero = true
even (suc n) = not (even n)

-- whether some set of elements below n passes the test
abbrev pub any_part : ℕ → (Elements → Bool) → Bool
any_part zero p = p nothing
any_part (suc k) p = any_part k p || any_part k (λ S. p (with S k))

-- whether P is a part of S with at least one member, all below n
abbrev pub partly : ℕ → Elements → Elements → Bool
partly n P S = not (every n (λ i. not (P i))) && every n (λ i. not (P i) || S i)

-- the vectors of the elements: whether that of element i has a one at coordinate c
abbrev pub Columns : Type 0
Columns = ℕ → ℕ → Bool

-- whether the vectors of P add up to zero: an even number of them has a one at each coordinate below d
abbrev pub cancels : ℕ → ℕ → Columns → Elements → Bool
cancels n d column P = every d (λ c. not (odd n (λ i. P i && column i c)))

-- n vectors of d coordinates: a set is dependent where some part of it, not empty, cancels
abbrev pub binary : ℕ → ℕ → Columns → Meaning
binary n d column = record {
  size = n;
  independent = λ S. not (any_part n (λ P. partly n P S && cancels n d column P));
}

-- bit c of a word
abbrev pub bit : ℕ → ℕ → Bool
bit w c = (w / 2 ^ c) % 2 == 1

-- n words of at most 64 bits, element i being the word w i: a set is dependent where some part of it, not empty, has an even number of ones at
-- each bit
abbrev pub words : ℕ → (ℕ → ℕ) → Meaning
words n w = binary n 64 (λ i c. bit (w i) c)

-- how often route i, which joins the places a i and b i, touches the place c
abbrev pub touch : (ℕ → ℕ) → (ℕ → ℕ) → ℕ → ℕ → ℕ
touch a b c i = cond (a i == c) 1 0 + cond (b i == c) 1 0

-- how often the routes of P touch it: the degree of c in P
abbrev pub touches : ℕ → (ℕ → ℕ) → (ℕ → ℕ) → Elements → ℕ → ℕ
touches n a b P c = sum n (touch a b c) P

-- n routes between d places: a set is dependent where some part of it, not empty, touches each place an even number of times
abbrev pub routes : ℕ → ℕ → (ℕ → ℕ) → (ℕ → ℕ) → Meaning
routes n d a b = record {
  size = n;
  independent = λ S. not (any_part n (λ P. partly n P S && every d (λ c. even (touches n a b P c))));
}

-- the members of S in lot j, where element i is in lot i
abbrev pub within_lot : (ℕ → ℕ) → Elements → ℕ → Elements
within_lot lot S j i = S i && lot i == j

-- n elements in lots: a set is dependent where it has more members in a lot than the lot's cap
abbrev pub lots : ℕ → (ℕ → ℕ) → (ℕ → ℕ) → Meaning
lots n lot cap = record {
  size = n;
  independent = λ S. every n (λ i. nat_le (count n (within_lot lot S (lot i))) (cap (lot i)));
}
