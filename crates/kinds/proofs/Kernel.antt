-- More rows than coordinates: some of the rows cancel.
use Rattle.std.proofs.Common.{◌≡◌, ℕ, zero, suc, ◌<◌, Bool, true, false, not, ◌&&◌, eqb, sym, refl, ap, ◌∙◌, inl, inr, arith}
use Rattle.std.proofs.lemmas.Bool.{cases_eq, cases_Bool, and_parts, both_ways, eq-eqb, ne_eqb, eqb-true, cond-true}
use Rattle.matroid.specs.Sets.{Elements, without, count}
use Rattle.kinds.specs.Kinds.{differ, odd, Columns}
use Rattle.kinds.proofs.Odd.{differ_none, and_differ, differ_and, and_assoc, odd_same, odd_none, odd_differ, odd_and, odd_one}
use Rattle.matroid.proofs.Members.{seek, without_parts, without_here}
use Rattle.matroid.proofs.Counts.{count_none, count_without}
use Rattle.kinds.proofs.Below.{at_last}

-- a part of T with members, whose rows cancel at each coordinate below m that is in S
pub record Cancelled (n : ℕ) (T : Elements) (m : ℕ) (S : Elements) (A : Columns) : Type 0 where
  pub rows : Elements
  pub member : ℕ
  pub below : member < n
  pub has : rows member ≡ true
  pub inside : (i : ℕ) → rows i ≡ true → T i ≡ true
  pub zeros : (c : ℕ) → c < m → S c ≡ true → odd n (λ i. rows i && A i c) ≡ false

-- the other rows, each with the pivot row t added where it has a one at m
abbrev reduced : Columns → ℕ → ℕ → Columns
reduced A t m i c = differ (A i c) (A i m && A t c)

-- the rows P, with t where their sum has a one at m
abbrev joined : ℕ → Columns → ℕ → ℕ → Elements → Elements
joined n A t m P i = differ (P i) (eqb i t && odd n (λ k. P k && A k m))

joined_sum : (n : ℕ) (A : Columns) (t m : ℕ) (P : Elements) (c : ℕ) → t < n
    → odd n (λ i. joined n A t m P i && A i c) ≡ differ (odd n (λ i. P i && A i c)) (odd n (λ k. P k && A k m) && A t c)
joined_sum n A t m P c l =
    let q : Bool = odd n (λ k. P k && A k m) in
    odd_same n _ (λ i. differ (P i && A i c) (eqb i t && (q && A i c)))
    (λ i k. differ_and (P i) (eqb i t && q) (A i c) ∙ ap (differ (P i && A i c)) (and_assoc (eqb i t) q (A i c)))
    ∙ odd_differ n (λ i. P i && A i c) (λ i. eqb i t && (q && A i c))
    ∙ ap (differ (odd n (λ i. P i && A i c))) (odd_one n t (λ i. q && A i c) l)

reduced_sum : (n : ℕ) (A : Columns) (t m : ℕ) (P : Elements) (c : ℕ)
    → odd n (λ i. P i && reduced A t m i c) ≡ differ (odd n (λ i. P i && A i c)) (odd n (λ k. P k && A k m) && A t c)
reduced_sum n A t m P c =
    odd_same n _ (λ i. differ (P i && A i c) ((P i && A i m) && A t c))
    (λ i k. and_differ (P i) (A i c) (A i m && A t c) ∙ ap (differ (P i && A i c)) (sym (and_assoc (P i) (A i m) (A t c))))
    ∙ odd_differ n (λ i. P i && A i c) (λ i. (P i && A i m) && A t c)
    ∙ ap (differ (odd n (λ i. P i && A i c))) (odd_and n (λ i. P i && A i m) (A t c))

joined_other : (n : ℕ) (A : Columns) (t m : ℕ) (P : Elements) (i : ℕ) → (i ≡ t → ⊥) → joined n A t m P i ≡ P i
joined_other n A t m P i h = ap (λ (b : Bool). differ (P i) (b && odd n (λ k. P k && A k m))) (ne_eqb i t h) ∙ differ_none (P i)

differ_true : (q b : Bool) → b ≡ true → differ q (q && b) ≡ false
differ_true true b h = ap not h
differ_true false b h = refl

-- from the rows that cancel after the pivot step
pivoted : (n : ℕ) (T : Elements) (m : ℕ) (S : Elements) (A : Columns) (t : ℕ) → t < n → T t ≡ true → A t m ≡ true
    → Cancelled n (without T t) m S (reduced A t m) → Cancelled n T (suc m) S A
pivoted n T m S A t l h o k = record {
  rows = joined n A t m k.rows;
  member = k.member;
  below = k.below;
  has =
      joined_other n A t m k.rows k.member
      (λ e. both_ways (without T t k.member) (ap (without T t) e ∙ without_here T t) (k.inside k.member k.has))
      ∙ k.has;
  inside = λ i j. elim (cases_eq i t) [
    | inl e ↦ ap T e ∙ h
    | inr e ↦ (without_parts T t i (k.inside i (sym (joined_other n A t m k.rows i e) ∙ j))).1
  ];
  zeros =
      at_last (λ c. S c ≡ true → odd n (λ i. joined n A t m k.rows i && A i c) ≡ false) m
      (λ _. joined_sum n A t m k.rows m l ∙ differ_true (odd n (λ i. k.rows i && A i m)) (A t m) o)
      (λ c b s. joined_sum n A t m k.rows c l ∙ sym (reduced_sum n A t m k.rows c) ∙ k.zeros c b s);
}

-- one coordinate more, at which the rows cancel too
extended : (n : ℕ) (T : Elements) (m : ℕ) (S : Elements) (A : Columns) (k : Cancelled n T m S A)
    → (S m ≡ true → odd n (λ i. k.rows i && A i m) ≡ false) → Cancelled n T (suc m) S A
extended n T m S A k h = record {
  rows = k.rows;
  member = k.member;
  below = k.below;
  has = k.has;
  inside = k.inside;
  zeros = at_last (λ c. S c ≡ true → odd n (λ i. k.rows i && A i c) ≡ false) m h k.zeros;
}

no_ones : (a b t : Bool) → (a ≡ true → t ≡ true) → (t && b) ≡ false → (a && b) ≡ false
no_ones true b t h e = ap (λ (x : Bool). x && b) (sym (h refl)) ∙ e
no_ones false b t h e = refl

pub kernel : (n : ℕ) (T : Elements) (m : ℕ) (S : Elements) (A : Columns) → count m S < count n T → Cancelled n T m S A
kernel n T zero S A l =
    elim (seek n T) [
      | inl (t, b, e) ↦ record {
        rows = λ i. eqb i t;
        member = t;
        below = b;
        has = eq-eqb t t refl;
        inside = λ i h. ap T (eqb-true i t h) ∙ e;
        zeros = λ c b s. absurd (omega arith);
      }
      | inr h ↦ let z = count_none n T h in absurd (omega arith)
    ]
kernel n T (suc m) S A l =
    elim (cases_Bool (S m)) [
      | inl e ↦ elim (seek n (λ i. T i && A i m)) [
        | inl (t, b, f) ↦
            let (g, o) = and_parts (T t) (A t m) f in
            let x = cond-true {A = ℕ} (S m) 1 0 e in
            let y = count_without n T t b g in
            pivoted n T m S A t b g o (kernel n (without T t) m S (reduced A t m) (omega arith))
        | inr h ↦
            let k = kernel n T m S A (omega arith) in
            extended n T m S A k (λ _. odd_none n _ (λ i b. no_ones (k.rows i) (A i m) (T i) (k.inside i) (h i b)))
      ]
      | inr e ↦ extended n T m S A (kernel n T m S A (omega arith)) (λ s. absurd (both_ways (S m) e s))
    ]
