-- Sums by layers: a set with as many members, and as many under each threshold, has no larger sum.
use Rattle.std.proofs.Common.{◌≡◌, ℕ, zero, suc, ◌+◌, ◌<◌, ◌≤◌, min, Bool, false, cond, ◌&&◌, ltb, refl, ap, ◌∙◌, inl, inr, arith}
use Rattle.std.proofs.lemmas.Bool.{ltb-true, ltb-false, and_from, and_left, cases_Bool, cases_eq, cond-true, cond-false, cond_both}
use Rattle.matroid.specs.Sets.{Elements, count, sum, under}
use Rattle.matroid.proofs.Counts.{sum_same}

-- a number that v is below at each i below n
pub bound : (n : ℕ) (v : ℕ → ℕ) → (t : ℕ) × ((i : ℕ) → i < n → v i ≤ t)
bound zero v = (0, λ i l. absurd (omega arith))
bound (suc n) v =
    let r = bound n v in
    (v n + r.0, λ i l. elim (cases_eq i n) [ inl e ↦ let a = ap v e in omega arith | inr d ↦ let a = r.1 i (omega arith) in omega arith ])

-- one more layer of the values
pub layer : (n : ℕ) (v : ℕ → ℕ) (t : ℕ) (S : Elements)
    → sum n (λ i. min (v i) (suc t)) S + count n (under v (suc t) S) ≡ sum n (λ i. min (v i) t) S + count n S
layer zero v t S = refl
layer (suc n) v t S =
    let there = layer n v t S in
    elim (cases_Bool (S n)) [
      | inl a ↦
          let p = cond-true (S n) (min (v n) (suc t)) 0 a in
          let q = cond-true (S n) (min (v n) t) 0 a in
          let c = cond-true {A = ℕ} (S n) 1 0 a in
          elim (cases_Bool (ltb (v n) (suc t))) [
            | inl b ↦
                let u = cond-true {A = ℕ} (under v (suc t) S n) 1 0 (and_from (S n) (ltb (v n) (suc t)) a b) in
                let l = ltb-true (v n) (suc t) b in omega arith
            | inr b ↦
                let u = cond-false {A = ℕ} (under v (suc t) S n) 1 0 (ap (λ (x : Bool). S n && x) b ∙ ap (λ (x : Bool). x && false) a) in
                let l = ltb-false (v n) (suc t) b in omega arith
          ]
      | inr a ↦
          let p = cond-false (S n) (min (v n) (suc t)) 0 a in
          let q = cond-false (S n) (min (v n) t) 0 a in
          let c = cond-false {A = ℕ} (S n) 1 0 a in
          let u = cond-false {A = ℕ} (under v (suc t) S n) 1 0 (and_left (S n) (ltb (v n) (suc t)) a) in
          omega arith
    ]

sum_zero : (n : ℕ) (v : ℕ → ℕ) (S : Elements) → ((i : ℕ) → v i ≡ 0) → sum n v S ≡ 0
sum_zero zero v S h = refl
sum_zero (suc n) v S h =
    let there = sum_zero n v S h in
    let here : cond (S n) (v n) 0 ≡ 0 = cond_both (S n) (v n) 0 (λ x. x ≡ 0) (λ e. h n) (λ e. refl) in
    omega arith

-- a set of as many members, and of at least as many under each threshold, has no larger sum
pub layers : (n : ℕ) (v : ℕ → ℕ) (S T : Elements) → count n S ≡ count n T → ((t : ℕ) → count n (under v t T) ≤ count n (under v t S))
    → (t : ℕ) → sum n (λ i. min (v i) t) S ≤ sum n (λ i. min (v i) t) T
layers n v S T c h zero =
    let z = sum_zero n (λ i. min (v i) 0) S (λ i. omega arith) in omega arith
layers n v S T c h (suc t) =
    let a = layers n v S T c h t in let b = layer n v t S in let d = layer n v t T in let e = h (suc t) in omega arith

pub lighter : (n : ℕ) (v : ℕ → ℕ) (S T : Elements) → count n S ≡ count n T → ((t : ℕ) → count n (under v t T) ≤ count n (under v t S)) → sum n v S ≤ sum n v T
lighter n v S T c h =
    let b = bound n v in
    let cut : (X : Elements) → sum n (λ i. min (v i) b.0) X ≡ sum n v X = λ X. sum_same n (λ i. min (v i) b.0) v X X (λ i l. refl) (λ i l. let r = b.1 i l in omega arith) in
    let k = layers n v S T c h b.0 in
    let p = cut S in let q = cut T in omega arith
