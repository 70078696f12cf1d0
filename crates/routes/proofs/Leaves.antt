-- A place that is touched once gives its route, which is in no even part.
use Rattle.std.proofs.Common.{◌≡◌, ℕ, zero, suc, ◌+◌, ◌<◌, Bool, true, false, cond, eqb, sym, refl, ap, ◌∙◌, inl, inr, arith}
use Rattle.std.proofs.lemmas.Bool.{cases_eq, cases_Bool, cond-true, cond-false}
use Rattle.matroid.specs.Sets.{Elements, without, sum, Part}
use Rattle.matroid.proofs.Members.{without_from}
use Rattle.matroid.proofs.Counts.{sum_without, sum_part}
use Rattle.kinds.specs.Kinds.{touch, touches}
use Rattle.kinds.specs.Meanings.{EvenPart}
use Rattle.routes.specs.Cores.{touch_number, number_sums}

sum_zero : (n : ℕ) (v w : ℕ → ℕ) (R : Elements) → ((i : ℕ) → v i ≡ 0 → w i ≡ 0) → sum n v R ≡ 0 → sum n w R ≡ 0
sum_zero zero v w R h e = refl
sum_zero (suc n) v w R h e =
    elim (cases_Bool (R n)) [
      | inl r ↦
          let x = cond-true {A = ℕ} (R n) (v n) 0 r in
          let y = cond-true {A = ℕ} (R n) (w n) 0 r in
          let z = h n (omega arith) in
          let u = sum_zero n v w R h (omega arith) in
          omega arith
      | inr r ↦
          let x = cond-false {A = ℕ} (R n) (v n) 0 r in
          let y = cond-false {A = ℕ} (R n) (w n) 0 r in
          let u = sum_zero n v w R h (omega arith) in
          omega arith
    ]

abbrev Sole : ℕ → (ℕ → ℕ) → Elements → ℕ → Type 0
Sole n v R t = (t < n) × (R t ≡ true) × (v t ≡ 1)

sole_more : (n : ℕ) (v : ℕ → ℕ) (R : Elements) (t s : ℕ) → s ≡ t → Sole n v R t → Sole (suc n) v R s
sole_more n v R t s e (l, r, o) = (omega arith, ap R e ∙ r, ap v e ∙ o)

-- where the sum of v is one, the sum of the numbers is that of the one member
sole : (n : ℕ) (v w : ℕ → ℕ) (R : Elements) → ((i : ℕ) → v i ≡ 0 → w i ≡ 0) → ((i : ℕ) → v i ≡ 1 → w i ≡ i) → sum n v R ≡ 1
    → Sole n v R (sum n w R)
sole zero v w R h k e = absurd (omega arith)
sole (suc n) v w R h k e =
    elim (cases_Bool (R n)) [
      | inl r ↦
          let x = cond-true {A = ℕ} (R n) (v n) 0 r in
          let y = cond-true {A = ℕ} (R n) (w n) 0 r in
          elim (cases_eq (v n) 0) [
            | inl z ↦
                let u = h n z in
                sole_more n v R (sum n w R) _ (omega arith) (sole n v w R h k (omega arith))
            | inr z ↦
                let o : v n ≡ 1 = omega arith in
                let u = k n o in
                let s = sum_zero n v w R h (omega arith) in
                let t : sum (suc n) w R ≡ n = omega arith in
                (omega arith, ap R t ∙ r, ap v t ∙ o)
          ]
      | inr r ↦
          let x = cond-false {A = ℕ} (R n) (v n) 0 r in
          let y = cond-false {A = ℕ} (R n) (w n) 0 r in
          sole_more n v R (sum n w R) _ (omega arith) (sole n v w R h k (omega arith))
    ]

touch_none : (p q : Bool) (i : ℕ) → cond {A = ℕ} p 1 0 + cond {A = ℕ} q 1 0 ≡ 0 → cond {A = ℕ} p i 0 + cond {A = ℕ} q i 0 ≡ 0
touch_none true q i h = absurd (omega arith)
touch_none false true i h = absurd (omega arith)
touch_none false false i h = refl

touch_one : (p q : Bool) (i : ℕ) → cond {A = ℕ} p 1 0 + cond {A = ℕ} q 1 0 ≡ 1 → cond {A = ℕ} p i 0 + cond {A = ℕ} q i 0 ≡ i
touch_one true true i h = absurd (omega arith)
touch_one true false i h = omega arith
touch_one false true i h = omega arith
touch_one false false i h = absurd (omega arith)

-- the route at a place that is touched once
pub leaf : (n : ℕ) (a b : ℕ → ℕ) (R : Elements) (c : ℕ) → touches n a b R c ≡ 1 → Sole n (touch a b c) R (number_sums n a b R c)
leaf n a b R c e =
    sole n (touch a b c) (touch_number a b c) R
    (λ i. touch_none (eqb (a i) c) (eqb (b i) c) i) (λ i. touch_one (eqb (a i) c) (eqb (b i) c) i) e

-- no even part has it
pub stripped : (n d : ℕ) (a b : ℕ → ℕ) (S R : Elements) (c t : ℕ) → c < d → touches n a b R c ≡ 1 → t < n → touch a b c t ≡ 1
    → (P : Elements) → EvenPart n d a b S P → Part n P R → Part n P (without R t)
stripped n d a b S R c t m o l h P w inside j k p =
    without_from R t j
    (λ e.
    let x = sum_without n (touch a b c) P t l (ap P (sym e) ∙ p) in
    let y = sum_part n (touch a b c) P R inside in
    let (z, u) = w.twice c m in
    omega arith)
    (inside j k p)
