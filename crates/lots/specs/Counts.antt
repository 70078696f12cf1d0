-- How many members of a set each lot has, as the code counts them. Assumes nothing.
use Rattle.std.specs.Prelude.{◌≡◌, ℕ, ◌+◌, ◌<◌, cond, List, ◌==◌}
use Rattle.matroid.specs.Sets.{Elements, count}
use Rattle.kinds.specs.Kinds.{within_lot}
use Rattle.kinds.specs.Lists.{all_places, at}

-- how many of the first n elements are members of S in each lot
abbrev pub Counted : ℕ → List ℕ → Elements → List ℕ → Type 0
Counted n ls S counts = (j : ℕ) → j < all_places → at counts j ≡ count n (within_lot (at ls) S j)

-- lot c has one more, and each other as many
pub record OneMore (c : ℕ) (less more : List ℕ) : Type 0 where
  pub counts : (j : ℕ) → j < all_places → at more j ≡ at less j + cond (c == j) 1 0
