-- What is left of a set of routes when its leaves are stripped, and how the code comes to it. Assumes nothing.
--     Core n d a b S R     R is what is left of S
--     Tallied n rs R places, Leaf, Attached     what is noted of each place
--     Strips, LeafStripped, NoLeafBelow         the steps of the stripping
use Rattle.std.specs.Prelude.{◌≡◌, ℕ, ◌+◌, ◌<◌, Bool, true, false, cond, List, length, ◌==◌, ◌≢◌, slice_index_or, slice_set}
use Rattle.matroid.specs.Sets.{Elements, Part, sum, count}
use Rattle.matroid.specs.Questions.{marked}
use Rattle.kinds.specs.declared.Route.{Route}
use Rattle.kinds.specs.Kinds.{touch, touches}
use Rattle.kinds.specs.Lists.{all_places, from, to}
use Rattle.kinds.specs.Meanings.{EvenPart}
use Rattle.routes.specs.declared.two_core.Incidence.{Incidence}

-- R is a part of S that touches no place just once, and has each even part of S
pub record Core (n d : ℕ) (a b : ℕ → ℕ) (S R : Elements) : Type 0 where
  pub inside : Part n R S
  pub no_leaf : (c : ℕ) → c < d → touches n a b R c ≢ 1
  pub even_parts : (P : Elements) → EvenPart n d a b S P → Part n P R

-- the number of route i, as often as it touches the place c
abbrev pub touch_number : (ℕ → ℕ) → (ℕ → ℕ) → ℕ → ℕ → ℕ
touch_number a b c i = cond (a i == c) i 0 + cond (b i == c) i 0

-- the sum of the numbers of the routes of P that touch the place c
abbrev pub number_sums : ℕ → (ℕ → ℕ) → (ℕ → ℕ) → Elements → ℕ → ℕ
number_sums n a b P c = sum n (touch_number a b c) P

-- how often the routes that are left touch the place c, as noted
abbrev pub degree : List Incidence → ℕ → ℕ
degree places c = (slice_index_or places c (record { degree = 0; numbers = 0 })).degree

-- the sum of their numbers, as noted
abbrev pub numbers : List Incidence → ℕ → ℕ
numbers places c = (slice_index_or places c (record { degree = 0; numbers = 0 })).numbers

-- the ends of the first n routes are places
pub record EndsArePlaces (n : ℕ) (rs : List Route) : Type 0 where
  pub froms : (i : ℕ) → i < n → from rs i < all_places
  pub tos : (i : ℕ) → i < n → to rs i < all_places

-- what is noted of each place is right for the first n of the routes in R
pub record Tallied (n : ℕ) (rs : List Route) (R : Elements) (places : List Incidence) : Type 0 where
  pub degrees : (c : ℕ) → c < all_places → degree places c ≡ touches n (from rs) (to rs) R c
  pub numbered : (c : ℕ) → c < all_places → numbers places c ≡ number_sums n (from rs) (to rs) R c

-- one end of route k is noted at the place c
pub record Attached (c k : ℕ) (less more : List Incidence) : Type 0 where
  pub degrees : (x : ℕ) → x < all_places → degree more x ≡ degree less x + cond (c == x) 1 0
  pub numbered : (x : ℕ) → x < all_places → numbers more x ≡ numbers less x + cond (c == x) k 0

-- route t is the only marked one that touches the leaf c, and touches it once: what is noted, split into t and the others
pub record Leaf (rs : List Route) (marks : List Bool) (places : List Incidence) (c t : ℕ) : Type 0 where
  pub below : t < length rs
  pub has : marked marks t ≡ true
  pub once : touch (from rs) (to rs) c t ≡ 1
  pub degrees : (x : ℕ) → x < all_places
      → degree places x ≡ touch (from rs) (to rs) x t + touches (length rs) (from rs) (to rs) (marked (slice_set marks t false)) x
  pub numbered : (x : ℕ) → x < all_places
      → numbers places x ≡ touch_number (from rs) (to rs) x t + number_sums (length rs) (from rs) (to rs) (marked (slice_set marks t false)) x

-- R is a part of S that has each even part of S
pub record Strips (rs : List Route) (S R : Elements) : Type 0 where
  pub inside : Part (length rs) R S
  pub even_parts : (P : Elements) → EvenPart (length rs) all_places (from rs) (to rs) S P → Part (length rs) P R

-- no place below p is touched just once
abbrev pub NoLeafBelow : List Route → Elements → ℕ → Type 0
NoLeafBelow rs R p = (c : ℕ) → c < p → touches (length rs) (from rs) (to rs) R c ≢ 1

-- what is left of S when leaves are stripped for as long as there are any
abbrev pub CoreOf : List Route → Elements → Elements → Type 0
CoreOf rs S R = Core (length rs) all_places (from rs) (to rs) S R

-- the route at the leaf, whose other end is q, is stripped from R, which leaves T; no leaf is new but perhaps q
pub record LeafStripped (rs : List Route) (leaf q : ℕ) (R T : Elements) : Type 0 where
  pub strips : Strips rs R T
  pub fewer : count (length rs) T < count (length rs) R
  pub settled : (c : ℕ) → (c ≢ q) → touches (length rs) (from rs) (to rs) T c ≡ 1
      → (c ≢ leaf) × (touches (length rs) (from rs) (to rs) R c ≡ 1)
