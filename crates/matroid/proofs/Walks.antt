-- Walks over lists by what is left of them.
use Rattle.std.proofs.Common.{◌≡◌, ℕ, zero, suc, ◌<◌, List, [], ◌∷◌, length, drop, slice_index_or, arith}

-- the first of the items that are left
pub first_left : {A : Type 0} (d : A) (xs : List A) (i : ℕ) (x : A) (rest : List A) → drop i xs ≡ x ∷ rest
    → (i < length xs) × (slice_index_or xs i d ≡ x) × (rest ≡ drop (suc i) xs)
first_left d [] zero x rest e = absurd (cc)
first_left d [] (suc i) x rest e = absurd (cc)
first_left d (y ∷ ys) zero x rest e = (omega arith, cc, cc)
first_left d (y ∷ ys) (suc i) x rest e = let (l, h, r) = first_left d ys i x rest e in (omega arith, h, r)
