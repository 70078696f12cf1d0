-- Sets of elements, each by the test of its members. Assumes nothing.
use Rattle.std.specs.Prelude.{◌≡◌, ℕ, zero, suc, ◌+◌, ◌<◌, Bool, true, false, cond, not, ◌&&◌, ◌||◌, ◌==◌, nat_lt}

-- a set of numbers: true for its members
abbrev pub Elements : Type 0
Elements = ℕ → Bool

-- the set with no member
abbrev pub nothing : Elements
nothing i = false

-- S and e
abbrev pub with : Elements → ℕ → Elements
with S e i = i == e || S i

-- S but not e
abbrev pub without : Elements → ℕ → Elements
without S e i = not (i == e) && S i

-- the members of S and those of T
abbrev pub joined : Elements → Elements → Elements
joined S T i = S i || T i

-- the members of S below n
abbrev pub cut : ℕ → Elements → Elements
cut n S i = nat_lt i n && S i

-- each member of S below n is one of T
abbrev pub Part : ℕ → Elements → Elements → Type 0
Part n S T = (i : ℕ) → i < n → S i ≡ true → T i ≡ true

-- how many of the elements below n are in S
abbrev pub count : ℕ → Elements → ℕ
count zero S = 0
count (suc n) S = cond (S n) 1 0 + count n S

-- the sum of v over the elements below n that are in S
abbrev pub sum : ℕ → (ℕ → ℕ) → Elements → ℕ
sum zero v S = 0
sum (suc n) v S = cond (S n) (v n) 0 + sum n v S

-- the members of S whose value is below the threshold t
abbrev pub under : (ℕ → ℕ) → ℕ → Elements → Elements
under v t S i = S i && nat_lt (v i) t

-- whether the test holds of each number below n
abbrev pub every : ℕ → (ℕ → Bool) → Bool
every zero p = true
every (suc n) p = p n && every n p

-- the lowest number below n of which the test holds, or n where there is none
abbrev pub lowest : ℕ → (ℕ → Bool) → ℕ
lowest zero p = zero
lowest (suc n) p = cond (every n (λ i. not (p i))) (cond (p n) n (suc n)) (lowest n p)
