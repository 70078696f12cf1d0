-- Membership in sets made of others, and tests of all numbers below n.
use Rattle.std.proofs.Common.{◌≡◌, ℕ, zero, suc, ◌<◌, Bool, true, false, cond, not, ◌&&◌, ◌||◌, eqb, ltb, ◌⊎◌, sym, refl, ap, ◌∙◌, subst, inl, inr, arith}
use Rattle.std.proofs.lemmas.Bool.{both_ways, not-true, not-false, ltb-true, eqb-true, eqb-false, lt-ltb, eq-eqb, ne_eqb, and_parts, and_from, and_cases, and_left, or_cases, or_left, or_right, not_from_true, not_from_false, cases_Bool, cases_eq, cases_lt, cond-true, cond-false}
use Rattle.matroid.specs.Sets.{Elements, with, without, Part, under, every, lowest}

pub with_here : (S : Elements) (e : ℕ) → with S e e ≡ true
with_here S e = or_left (eqb e e) (S e) (eq-eqb e e refl)

pub with_there : (S : Elements) (e i : ℕ) → S i ≡ true → with S e i ≡ true
with_there S e i h = or_right (eqb i e) (S i) h

pub with_cases : (S : Elements) (e i : ℕ) → with S e i ≡ true → (i ≡ e) ⊎ (S i ≡ true)
with_cases S e i h = elim (or_cases (eqb i e) (S i) h) [ inl k ↦ inl (eqb-true i e k) | inr k ↦ inr k ]

pub without_parts : (S : Elements) (e i : ℕ) → without S e i ≡ true → (i ≡ e → ⊥) × (S i ≡ true)
without_parts S e i h =
    let p = and_parts (not (eqb i e)) (S i) h in
    (eqb-false i e (not-true (eqb i e) p.0), p.1)

pub without_from : (S : Elements) (e i : ℕ) → (i ≡ e → ⊥) → S i ≡ true → without S e i ≡ true
without_from S e i d h = and_from (not (eqb i e)) (S i) (not_from_false (eqb i e) (ne_eqb i e d)) h

pub without_here : (S : Elements) (e : ℕ) → without S e e ≡ false
without_here S e = and_left (not (eqb e e)) (S e) (not_from_true (eqb e e) (eq-eqb e e refl))

pub with_other : (S : Elements) (e i : ℕ) → (i ≡ e → ⊥) → with S e i ≡ S i
with_other S e i h = ap (λ (b : Bool). b || S i) (ne_eqb i e h)

pub without_other : (S : Elements) (e i : ℕ) → (i ≡ e → ⊥) → without S e i ≡ S i
without_other S e i h = ap (λ (b : Bool). not b && S i) (ne_eqb i e h)

-- membership along an equation
pub same_in : (S : Elements) (a b : ℕ) → a ≡ b → S b ≡ true → S a ≡ true
same_in S a b e h = subst (λ (j : ℕ). S j ≡ true) (sym e) h

pub with_part : (n : ℕ) (S T : Elements) (e : ℕ) → Part n S T → T e ≡ true → Part n (with S e) T
with_part n S T e h k i l p = elim (with_cases S e i p) [ inl q ↦ subst (λ (j : ℕ). T j ≡ true) (sym q) k | inr q ↦ h i l q ]

pub with_all : (n : ℕ) (S : Elements) (e : ℕ) → Part n S (with S e)
with_all n S e i l h = with_there S e i h

-- the members of both
abbrev pub common : Elements → Elements → Elements
common S T i = S i && T i

pub under_parts : (v : ℕ → ℕ) (t : ℕ) (S : Elements) (i : ℕ) → under v t S i ≡ true → (S i ≡ true) × (v i < t)
under_parts v t S i h = let p = and_parts (S i) (ltb (v i) t) h in (p.0, ltb-true (v i) t p.1)

pub under_from : (v : ℕ → ℕ) (t : ℕ) (S : Elements) (i : ℕ) → S i ≡ true → v i < t → under v t S i ≡ true
under_from v t S i h k = and_from (S i) (ltb (v i) t) h (lt-ltb (v i) t k)

-- no member, so false
pub none_false : (b : Bool) → (b ≡ true → ⊥) → b ≡ false
none_false true h = absurd (h refl)
none_false false h = refl

pub none_true : (b : Bool) → (b ≡ false → ⊥) → b ≡ true
none_true true h = refl
none_true false h = absurd (h refl)

pub every_true : (n : ℕ) (p : ℕ → Bool) → every n p ≡ true → (i : ℕ) → i < n → p i ≡ true
every_true zero p h i l = absurd (omega arith)
every_true (suc n) p h i l =
    let q = and_parts (p n) (every n p) h in
    elim (cases_eq i n) [ inl e ↦ subst (λ (j : ℕ). p j ≡ true) (sym e) q.0 | inr d ↦ every_true n p q.1 i (omega arith) ]

pub every_false : (n : ℕ) (p : ℕ → Bool) → every n p ≡ false → (i : ℕ) × (i < n) × (p i ≡ false)
every_false zero p h = absurd (both_ways true h refl)
every_false (suc n) p h =
    elim (and_cases (p n) (every n p) h) [
      | inl q ↦ (n, omega arith, q)
      | inr q ↦ let r = every_false n p q in (r.0, omega arith, r.2)
    ]

-- one that fails is enough
pub every_not : (n : ℕ) (p : ℕ → Bool) (i : ℕ) → i < n → p i ≡ false → every n p ≡ false
every_not n p i l h = none_false (every n p) (λ t. both_ways (p i) h (every_true n p t i l))

pub every_from : (n : ℕ) (p : ℕ → Bool) → ((i : ℕ) → i < n → p i ≡ true) → every n p ≡ true
every_from zero p h = refl
every_from (suc n) p h = and_from (p n) (every n p) (h n (omega arith)) (every_from n p (λ i l. h i (omega arith)))

pub lowest_cases : (n : ℕ) (p : ℕ → Bool) → ((lowest n p < n) × (p (lowest n p) ≡ true)) ⊎ ((lowest n p ≡ n) × ((i : ℕ) → i < n → p i ≡ false))
lowest_cases zero p = inr (refl, λ i l. absurd (omega arith))
lowest_cases (suc n) p =
    let Goal : ℕ → Type 0 = λ x. ((x < suc n) × (p x ≡ true)) ⊎ ((x ≡ suc n) × ((i : ℕ) → i < suc n → p i ≡ false)) in
    let q : ℕ → Bool = λ i. not (p i) in
    elim (cases_Bool (every n q)) [
      | inl a ↦
          let step = cond-true (every n q) (cond (p n) n (suc n)) (lowest n p) a in
          subst Goal (sym step) (elim (cases_Bool (p n)) [
            | inl c ↦ subst Goal (sym (cond-true (p n) n (suc n) c)) (inl (omega arith, c))
            | inr c ↦ subst Goal (sym (cond-false (p n) n (suc n) c)) (inr (
              refl,
              λ i l. elim (cases_eq i n) [
                | inl e ↦ subst (λ (j : ℕ). p j ≡ false) (sym e) c
                | inr d ↦ not-true (p i) (every_true n q a i (omega arith))
              ],
            ))
          ])
      | inr a ↦
          let step = cond-false (every n q) (cond (p n) n (suc n)) (lowest n p) a in
          subst Goal (sym step) (elim (lowest_cases n p) [
            | inl h ↦ inl (omega arith, h.1)
            | inr h ↦ let x = every_false n q a in absurd (both_ways (p x.0) (h.1 x.0 x.1) (not-false (p x.0) x.2))
          ])
    ]

-- where none passes, there is none
pub lowest_none : (n : ℕ) (p : ℕ → Bool) → ((i : ℕ) → i < n → p i ≡ false) → lowest n p ≡ n
lowest_none n p h = elim (lowest_cases n p) [ inl k ↦ absurd (both_ways (p (lowest n p)) (h (lowest n p) k.0) k.1) | inr k ↦ k.0 ]

-- the lowest is the one that passes and has none that passes below it
pub lowest_is : (n : ℕ) (p : ℕ → Bool) (b : ℕ) → b < n → p b ≡ true → ((i : ℕ) → i < b → p i ≡ false) → lowest n p ≡ b
lowest_is zero p b l h o = absurd (omega arith)
lowest_is (suc n) p b l h o =
    let q : ℕ → Bool = λ i. not (p i) in
    elim (cases_eq b n) [
      | inl e ↦
          cond-true (every n q) (cond (p n) n (suc n)) (lowest n p) (every_from n q (λ i k. not_from_false (p i) (o i (omega arith))))
          ∙ (cond-true (p n) n (suc n) (subst (λ (k : ℕ). p k ≡ true) e h) ∙ sym e)
      | inr d ↦
          cond-false (every n q) (cond (p n) n (suc n)) (lowest n p)
          (every_not n q b (omega arith) (not_from_true (p b) h))
          ∙ lowest_is n p b (omega arith) h o
    ]

-- none below the lowest passes
pub lowest_before : (n : ℕ) (p : ℕ → Bool) (i : ℕ) → i < lowest n p → p i ≡ false
lowest_before zero p i l = absurd (omega arith)
lowest_before (suc n) p i l =
    let q : ℕ → Bool = λ i. not (p i) in
    elim (cases_Bool (every n q)) [
      | inl a ↦
          let step = cond-true (every n q) (cond (p n) n (suc n)) (lowest n p) a in
          elim (cases_lt i n) [
            | inl k ↦ not-true (p i) (every_true n q a i k)
            | inr k ↦ none_false (p i) (λ t.
                let e : i ≡ n = elim (cases_Bool (p n)) [
                  | inl c ↦ let s = cond-true (p n) n (suc n) c in omega arith
                  | inr c ↦ let s = cond-false (p n) n (suc n) c in omega arith
                ] in
                let s = cond-true (p n) n (suc n) (subst (λ (j : ℕ). p j ≡ true) e t) in
                omega arith)
          ]
      | inr a ↦ let step = cond-false (every n q) (cond (p n) n (suc n)) (lowest n p) a in lowest_before n p i (omega arith)
    ]

-- where some number passes, the lowest does
pub lowest_found : (n : ℕ) (p : ℕ → Bool) (i : ℕ) → i < n → p i ≡ true → (lowest n p < n) × (p (lowest n p) ≡ true)
lowest_found n p i l h = elim (lowest_cases n p) [ inl k ↦ k | inr k ↦ absurd (both_ways (p i) (k.1 i l) h) ]

-- a number below n that passes the test, or that there is none
pub seek : (n : ℕ) (p : ℕ → Bool) → ((i : ℕ) × (i < n) × (p i ≡ true)) ⊎ ((i : ℕ) → i < n → p i ≡ false)
seek n p = elim (lowest_cases n p) [ inl h ↦ inl (lowest n p, h.0, h.1) | inr h ↦ inr h.1 ]

-- a member of S below n that T has not, where S is no part of T
pub missing : (n : ℕ) (S T : Elements) → (Part n S T → ⊥) → (x : ℕ) × (x < n) × (S x ≡ true) × (T x ≡ false)
missing n S T h = elim (seek n (λ i. S i && not (T i))) [
  | inl (x, l, k) ↦ let p = and_parts (S x) (not (T x)) k in (x, l, p.0, not-true (T x) p.1)
  | inr k ↦ absurd (h (λ i l s. elim (and_cases (S i) (not (T i)) (k i l)) [ inl q ↦ absurd (both_ways (S i) q s) | inr q ↦ not-false (T i) q ]))
]
