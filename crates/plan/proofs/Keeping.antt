-- Walks through the first marks, one mark at a time: one more element of a sum, a count or a list. Assumes nothing.
use Rattle.std.proofs.Common.{◌≡◌, ℕ, zero, suc, ◌+◌, ◌-◌, ◌<◌, ◌≤◌, Bool, true, false, List, [], ◌∷◌, ◌++◌, length, take, drop, sym, refl, ap, ◌∙◌, inl, inr, add-one, arith}
use Rattle.std.specs.Prelude.{count_by}
use Rattle.std.proofs.lemmas.List.{append-nil, get_or_past, take_all}
use Rattle.std.proofs.lemmas.List.Sums.{count_by_more_no, count_by_more_yes}
use Rattle.std.proofs.lemmas.Bool.{cases_Bool, cases_lt, cond-true, cond-false}
use Rattle.matroid.specs.Questions.{marked}
use Rattle.matroid.specs.Sets.{count, sum}
use Rattle.matroid.proofs.Walks.{first_left}
use Rattle.plan.specs.Texts.{each_kept}

-- a walk through the first n marks has come to number i; `left` are all marks that are left
pub record Walk (marks : List Bool) (n i end : ℕ) (left : List Bool) : Type 0 where
  pub ends : end ≡ n
  pub within : i ≤ n
  pub rests : left ≡ drop i marks

-- one step of it, at the number k
module _ {marks left rest : List Bool} {n i j k end after : ℕ} {mark : Bool} (walk : Walk marks n i end left)
    (step : ((after ≡ end) × ((0 < end - i) × (k ≡ i) × (j ≡ i + 1))) × (left ≡ mark ∷ rest)) where
  next : suc i ≡ j
  next = sym (add-one i) ∙ sym step.0.1.2

  here : (marked marks i ≡ mark) × (rest ≡ drop (suc i) marks)
  here = let (_, h, r) = first_left false marks i mark rest (sym walk.rests ∙ step.1) in (h, r)

  pub walked : Walk marks n j after rest
  walked = record {
    ends = step.0.0 ∙ walk.ends;
    within = omega arith;
    rests = here.1 ∙ ap (λ x. drop x marks) next;
  }

  pub sum_in : (v : ℕ → ℕ) → mark ≡ true → sum j v (marked marks) ≡ sum i v (marked marks) + v k
  sum_in v h = let e = cond-true {A = ℕ} (marked marks i) (v i) 0 (here.0 ∙ h) in ap (λ x. sum x v (marked marks)) (sym next) ∙ omega (arith, ap v step.0.1.1)

  pub sum_out : (v : ℕ → ℕ) → mark ≡ false → sum j v (marked marks) ≡ sum i v (marked marks)
  sum_out v h = let e = cond-false {A = ℕ} (marked marks i) (v i) 0 (here.0 ∙ h) in ap (λ x. sum x v (marked marks)) (sym next) ∙ omega arith

  pub each_in : (text : ℕ → List ℕ) → mark ≡ true → each_kept i (marked marks) text ++ text k ≡ each_kept j (marked marks) text
  each_in text h =
      ap (λ t. each_kept i (marked marks) text ++ t) (ap text step.0.1.1 ∙ sym (cond-true (marked marks i) (text i) [] (here.0 ∙ h))) ∙
      ap (λ x. each_kept x (marked marks) text) next

  pub each_out : (text : ℕ → List ℕ) → mark ≡ false → each_kept i (marked marks) text ≡ each_kept j (marked marks) text
  each_out text h =
      sym (append-nil (each_kept i (marked marks) text)) ∙
      (ap (λ t. each_kept i (marked marks) text ++ t) (sym (cond-false (marked marks i) (text i) [] (here.0 ∙ h))) ∙ ap (λ x. each_kept x (marked marks) text) next)

-- how many of the first n marks are set
pub count_marked : (n : ℕ) (marks : List Bool) → count_by (λ (b : Bool). b) (take n marks) ≡ count n (marked marks)
count_marked zero marks = refl
count_marked (suc n) marks =
    let before = count_marked n marks in
    ap (λ k. count_by (λ (b : Bool). b) (take k marks)) (sym (add-one n)) ∙
    elim (cases_lt n (length marks)) [
      | inl l ↦ elim (cases_Bool (marked marks n)) [
        | inl h ↦ let c = cond-true {A = ℕ} (marked marks n) 1 0 h in let m = count_by_more_yes (λ (b : Bool). b) marks n false l h in omega arith
        | inr h ↦ let c = cond-false {A = ℕ} (marked marks n) 1 0 h in let m = count_by_more_no (λ (b : Bool). b) marks n false l h in omega arith
      ]
      | inr p ↦
          let c = cond-false {A = ℕ} (marked marks n) 1 0 (get_or_past marks n false p) in
          let m = ap (count_by (λ (b : Bool). b)) (take_all (n + 1) marks (omega arith) ∙ sym (take_all n marks p)) in
          omega arith
    ]
