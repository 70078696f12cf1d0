-- Sums over all places, and how often the routes touch them all together.
use Rattle.std.proofs.Common.{◌≡◌, ℕ, zero, suc, ◌+◌, ◌<◌, ◌≤◌, Bool, true, false, cond, eqb, sym, refl, ap, ◌∙◌, inl, inr, arith}
use Rattle.std.proofs.lemmas.Bool.{cases_eq, cases_Bool, cond-true, cond-false, eq-eqb, ne_eqb}
use Rattle.matroid.specs.Sets.{Elements, count}
use Rattle.kinds.specs.Kinds.{touches}

-- the sum of f over the numbers below d
abbrev pub total : ℕ → (ℕ → ℕ) → ℕ
total zero f = 0
total (suc d) f = f d + total d f

total_none : (d : ℕ) → total d (λ c. 0) ≡ 0
total_none zero = refl
total_none (suc d) = let h = total_none d in omega arith

total_add : (d : ℕ) (f g : ℕ → ℕ) → total d (λ c. f c + g c) ≡ total d f + total d g
total_add zero f g = refl
total_add (suc d) f g = let h = total_add d f g in omega arith

total_cond : (d : ℕ) (r : Bool) (f : ℕ → ℕ) → total d (λ c. cond r (f c) 0) ≡ cond r (total d f) 0
total_cond d true f = refl
total_cond d false f = total_none d

total_zeros : (d : ℕ) (f : ℕ → ℕ) → ((c : ℕ) → c < d → f c ≡ 0) → total d f ≡ 0
total_zeros zero f h = refl
total_zeros (suc d) f h = let a = h d (omega arith) in let b = total_zeros d f (λ c l. h c (omega arith)) in omega arith

-- one place
total_one : (d t : ℕ) → t < d → total d (λ c. cond (eqb t c) 1 0) ≡ 1
total_one zero t l = absurd (omega arith)
total_one (suc d) t l =
    elim (cases_eq t d) [
      | inl e ↦
          let x = cond-true {A = ℕ} (eqb t d) 1 0 (eq-eqb t d e) in
          let y = total_zeros d (λ c. cond (eqb t c) 1 0) (λ c k. cond-false {A = ℕ} (eqb t c) 1 0 (ne_eqb t c (λ z. omega arith))) in
          omega arith
      | inr e ↦
          let x = cond-false {A = ℕ} (eqb t d) 1 0 (ne_eqb t d e) in
          let y = total_one d t (omega arith) in
          omega arith
    ]

-- each route touches twice
pub touch_total : (d n : ℕ) (a b : ℕ → ℕ) (R : Elements) → ((i : ℕ) → i < n → a i < d) → ((i : ℕ) → i < n → b i < d)
    → total d (touches n a b R) ≡ count n R + count n R
touch_total d zero a b R la lb = total_none d
touch_total d (suc n) a b R la lb =
    let x = touch_total d n a b R (λ i l. la i (omega arith)) (λ i l. lb i (omega arith)) in
    let y = total_add d (λ c. cond (R n) (cond (eqb (a n) c) 1 0 + cond (eqb (b n) c) 1 0) 0) (touches n a b R) in
    let z = total_cond d (R n) (λ c. cond (eqb (a n) c) 1 0 + cond (eqb (b n) c) 1 0) in
    let u = total_add d (λ c. cond (eqb (a n) c) 1 0) (λ c. cond (eqb (b n) c) 1 0) in
    let v = total_one d (a n) (la n (omega arith)) in
    let w = total_one d (b n) (lb n (omega arith)) in
    elim (cases_Bool (R n)) [
      | inl e ↦
          let s = cond-true {A = ℕ} (R n) (total d (λ c. cond (eqb (a n) c) 1 0 + cond (eqb (b n) c) 1 0)) 0 e in
          let t = cond-true {A = ℕ} (R n) 1 0 e in
          omega arith
      | inr e ↦
          let s = cond-false {A = ℕ} (R n) (total d (λ c. cond (eqb (a n) c) 1 0 + cond (eqb (b n) c) 1 0)) 0 e in
          let t = cond-false {A = ℕ} (R n) 1 0 e in
          omega arith
    ]

pub total_mono : (d : ℕ) (f g : ℕ → ℕ) → ((c : ℕ) → c < d → g c ≤ f c) → total d g ≤ total d f
total_mono zero f g h = omega arith
total_mono (suc d) f g h = let a = h d (omega arith) in let b = total_mono d f g (λ c l. h c (omega arith)) in omega arith

-- what is nowhere less and not more in all is the same
pub squeezed : (d : ℕ) (f g : ℕ → ℕ) → ((c : ℕ) → c < d → g c ≤ f c) → total d f ≤ total d g → (c : ℕ) → c < d → f c ≡ g c
squeezed zero f g h k c l = absurd (omega arith)
squeezed (suc d) f g h k c l =
    let x = h d (omega arith) in
    let y = total_mono d f g (λ c l. h c (omega arith)) in
    elim (cases_eq c d) [
      | inl e ↦ let z : f d ≡ g d = omega arith in ap f e ∙ z ∙ ap g (sym e)
      | inr e ↦ squeezed d f g (λ c l. h c (omega arith)) (omega arith) c (omega arith)
    ]

pub total_double : (d : ℕ) (U : Elements) → total d (λ c. cond (U c) 2 0) ≡ count d U + count d U
total_double zero U = refl
total_double (suc d) U =
    let x = total_double d U in
    elim (cases_Bool (U d)) [
      | inl e ↦ let s = cond-true {A = ℕ} (U d) 2 0 e in let t = cond-true {A = ℕ} (U d) 1 0 e in omega arith
      | inr e ↦ let s = cond-false {A = ℕ} (U d) 2 0 e in let t = cond-false {A = ℕ} (U d) 1 0 e in omega arith
    ]
