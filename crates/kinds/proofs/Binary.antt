-- A set whose vectors do not cancel: the laws.
use Rattle.std.proofs.Common.{◌≡◌, ℕ, ◌<◌, Bool, true, false, not, ◌&&◌, eqb, ◌↔◌, sym, refl, ap, ◌∙◌, ap₂, inl, inr, arith}
use Rattle.std.proofs.lemmas.Bool.{cases_eq, cases_lt, cases_Bool, and_parts, both_ways, not-true, eqb-true, eq-eqb, ne_eqb}
use Rattle.matroid.specs.Sets.{Elements, nothing, with, without, count}
use Rattle.matroid.specs.Matroids.{Laws}
use Rattle.kinds.specs.Kinds.{differ, odd, Columns, binary}
use Rattle.kinds.specs.Meanings.{Dependency}
use Rattle.kinds.proofs.Odd.{differ_and, and_assoc, odd_same, odd_none, odd_differ, odd_and, and_odd, odd_one, odd_swap}
use Rattle.matroid.proofs.Members.{seek, with_other, without_parts, without_here, without_other}
use Rattle.kinds.proofs.Dependencies.{dependency_more, no_dependency, a_dependency, no_dependency_independent}
use Rattle.kinds.proofs.Kernel.{Cancelled, kernel}

-- the vector of x is the sum of those of R, a part of S
record Spans (n d : ℕ) (column : Columns) (S : Elements) (x : ℕ) (R : Elements) : Type 0 where
  inside : (i : ℕ) → i < n → R i ≡ true → S i ≡ true
  sums : (c : ℕ) → c < d → column x c ≡ odd n (λ i. R i && column i c)

same_from_differ : (a b : Bool) → differ a b ≡ false → a ≡ b
same_from_differ true true h = refl
same_from_differ true false h = h
same_from_differ false b h = sym h

-- a member is the sum of itself
span_self : (n d : ℕ) (column : Columns) (S : Elements) (x : ℕ) → x < n → S x ≡ true → Spans n d column S x (λ i. eqb i x)
span_self n d column S x l h = record {
  inside = λ i k e. ap S (eqb-true i x e) ∙ h;
  sums = λ c k. sym (odd_one n x (λ i. column i c) l);
}

-- C is x with the rest of C
split_at : (C : Elements) (x i : ℕ) → C x ≡ true → C i ≡ differ (eqb i x) (without C x i)
split_at C x i h =
    elim (cases_eq i x) [
      | inl e ↦
          ap C e ∙ h ∙ sym (ap₂ differ (eq-eqb i x e) (ap (without C x) e ∙ without_here C x))
      | inr e ↦ sym (ap₂ differ (ne_eqb i x e) (without_other C x i e))
    ]

-- what a dependent S with x says of x
span_rest : (n d : ℕ) (column : Columns) (S : Elements) (x : ℕ) → x < n → (binary n d column).independent S ≡ true
    → (C : Elements) → Dependency n d column (with S x) C → C x ≡ true → Spans n d column S x (without C x)
span_rest n d column S x l h C k e = record {
  inside = λ i b r. elim (cases_eq i x) [
    | inl z ↦ absurd (both_ways (without C x i) (ap (without C x) z ∙ without_here C x) r)
    | inr z ↦ sym (with_other S x i z) ∙ k.some.inside i b (without_parts C x i r).1
  ];
  sums = λ c b.
      same_from_differ (column x c) (odd n (λ i. without C x i && column i c))
      (ap (λ (t : Bool). differ t (odd n (λ i. without C x i && column i c))) (sym (odd_one n x (λ i. column i c) l))
      ∙ sym (odd_differ n (λ i. eqb i x && column i c) (λ i. without C x i && column i c))
      ∙ odd_same n _ (λ i. C i && column i c)
      (λ i _. sym (differ_and (eqb i x) (without C x i) (column i c)) ∙ ap (λ (t : Bool). t && column i c) (sym (split_at C x i e)))
      ∙ k.even c b);
}

-- a part that cancels in S with x, for an independent S, has x
pub dependency_has : (n d : ℕ) (column : Columns) (S : Elements) (x : ℕ) → (binary n d column).independent S ≡ true
    → (C : Elements) → Dependency n d column (with S x) C → C x ≡ true
dependency_has n d column S x h C k =
    elim (cases_Bool (C x)) [
      | inl e ↦ e
      | inr e ↦ absurd (no_dependency n d column S h C (record {
        some = record {
          member = k.some.member;
          below = k.some.below;
          has = k.some.has;
          inside = λ i l c. sym (with_other S x i (λ z. both_ways (C i) (ap C z ∙ e) c)) ∙ k.some.inside i l c;
        };
        even = k.even;
      }))
    ]

span_other : (n d : ℕ) (column : Columns) (S : Elements) (x : ℕ) → x < n → (binary n d column).independent S ≡ true
    → (binary n d column).independent (with S x) ≡ false → (R : Elements) × Spans n d column S x R
span_other n d column S x l h f =
    let (C, k) = a_dependency n d column (with S x) f in
    (without C x, span_rest n d column S x l h C k (dependency_has n d column S x h C k))

and_when : (a b c : Bool) → (a ≡ true → b ≡ c) → (a && b) ≡ (a && c)
and_when true b c h = h refl
and_when false b c h = refl

-- where each member of T is the sum of a part of S, and T is larger, T has a dependency
module _ (n d : ℕ) (column : Columns) (S T : Elements) (A : Columns) (spans : (x : ℕ) → x < n → T x ≡ true → Spans n d column S x (A x)) where
  clear : (k : Cancelled n T n S A) (i : ℕ) → i < n → odd n (λ x. k.rows x && A x i) ≡ false
  clear k i l =
      elim (cases_Bool (S i)) [
        | inl e ↦ k.zeros i l e
        | inr e ↦ odd_none n _ (λ x b. elim (cases_Bool (k.rows x && A x i)) [
          | inl z ↦
              let (p, q) = and_parts (k.rows x) (A x i) z in
              absurd (both_ways (S i) e ((spans x b (k.inside x p)).inside i l q))
          | inr z ↦ z
        ])
      ]

  outnumbered : count n S < count n T → (P : Elements) × Dependency n d column T P
  outnumbered l =
      let k : Cancelled n T n S A = kernel n T n S A l in (
        k.rows,
        record {
          some = record { member = k.member; below = k.below; has = k.has; inside = λ i b. k.inside i };
          even = λ c b.
              odd_same n (λ x. k.rows x && column x c) (λ x. odd n (λ i. k.rows x && (A x i && column i c)))
              (λ x q. and_when (k.rows x) (column x c) (odd n (λ i. A x i && column i c)) (λ p. (spans x q (k.inside x p)).sums c b)
              ∙ sym (and_odd n (k.rows x) (λ i. A x i && column i c)))
              ∙ odd_swap n n (λ x i. k.rows x && (A x i && column i c))
              ∙ odd_none n _ (λ i q.
              odd_same n _ (λ x. (k.rows x && A x i) && column i c) (λ x _. sym (and_assoc (k.rows x) (A x i) (column i c)))
              ∙ odd_and n (λ x. k.rows x && A x i) (column i c)
              ∙ ap (λ (t : Bool). t && column i c) (clear k i q));
        },
      )

spanning : (n d : ℕ) (column : Columns) (S T : Elements) → (binary n d column).independent S ≡ true
    → ((x : ℕ) → x < n → (T x && (not (S x) && (binary n d column).independent (with S x))) ≡ false)
    → (x : ℕ) → (R : Elements) × (x < n → T x ≡ true → Spans n d column S x R)
spanning n d column S T h f x =
    elim (cases_lt x n) [
      | inl l ↦ elim (cases_Bool (T x)) [
        | inl t ↦ elim (cases_Bool (S x)) [
          | inl s ↦ ((λ i. eqb i x), (λ _ _. span_self n d column S x l s))
          | inr s ↦
              let (R, k) = span_other n d column S x l h
              (sym (ap₂ (λ (a b : Bool). a && (not b && (binary n d column).independent (with S x))) t s) ∙ f x l) in
              (R, (λ _ _. k))
        ]
        | inr t ↦ (nothing, (λ _ e. absurd (both_ways (T x) t e)))
      ]
      | inr l ↦ (nothing, (λ k _. absurd (omega arith)))
    ]

exchanged : (n d : ℕ) (column : Columns) (S T : Elements) → (binary n d column).independent S ≡ true → (binary n d column).independent T ≡ true
    → count n S < count n T → (x : ℕ) × (x < n) × (T x ≡ true) × (S x ≡ false) × ((binary n d column).independent (with S x) ≡ true)
exchanged n d column S T h g l =
    elim (seek n (λ x. T x && (not (S x) && (binary n d column).independent (with S x)))) [
      | inl (x, b, e) ↦
          let (t, r) = and_parts (T x) (not (S x) && (binary n d column).independent (with S x)) e in
          let (s, i) = and_parts (not (S x)) ((binary n d column).independent (with S x)) r in
          (x, b, t, not-true (S x) s, i)
      | inr f ↦
          let (P, k) = outnumbered n d column S T (λ x. (spanning n d column S T h f x).0) (λ x. (spanning n d column S T h f x).1) l in
          absurd (no_dependency n d column T g P k)
    ]

parted : (n d : ℕ) (column : Columns) (S T : Elements) → ((i : ℕ) → i < n → S i ≡ true → T i ≡ true)
    → (binary n d column).independent T ≡ true → (binary n d column).independent S ≡ true
parted n d column S T h t = no_dependency_independent n d column S (λ P k. no_dependency n d column T t P (dependency_more n d column S T P h k))

pub binary_laws : (n d : ℕ) (column : Columns) → Laws (binary n d column)
binary_laws n d column = record {
  none = no_dependency_independent n d column nothing (λ P k. both_ways false refl (k.some.inside k.some.member k.some.below k.some.has));
  part = parted n d column;
  exchange = exchanged n d column;
}

-- independence in words
pub binary_words : (n d : ℕ) (column : Columns) (S : Elements) → ((binary n d column).independent S ≡ true) ↔ ((P : Elements) → Dependency n d column S P → ⊥)
binary_words n d column S = (no_dependency n d column S, no_dependency_independent n d column S)
