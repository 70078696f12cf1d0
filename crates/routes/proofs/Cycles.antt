-- Routes that are as many as the places that they touch have an even part.
use Rattle.std.proofs.Common.{◌≡◌, ℕ, ◌<◌, ◌≤◌, Bool, true, false, ◌&&◌, eqb, sym, refl, ap, ◌∙◌, ap₂, inl, inr, arith}
use Rattle.std.proofs.lemmas.Bool.{cases_eq, cases_Bool, and_right, eq-eqb, ne_eqb}
use Rattle.matroid.specs.Sets.{Elements, without, count}
use Rattle.matroid.proofs.Members.{without_from}
use Rattle.matroid.proofs.Counts.{count_without}
use Rattle.kinds.proofs.Odd.{odd_same, odd_none, odd_one, odd_differ, odd_swap, and_odd}
use Rattle.kinds.proofs.Kernel.{Cancelled, kernel}
use Rattle.kinds.proofs.Routes.{ends, dependency_even}
use Rattle.kinds.specs.Kinds.{differ, odd}
use Rattle.kinds.specs.Meanings.{EvenPart}

eqb_flip : (a c : ℕ) → (eqb c a && true) ≡ eqb a c
eqb_flip a c =
    elim (cases_eq a c) [
      | inl e ↦ ap (λ (x : Bool). x && true) (eq-eqb c a (sym e)) ∙ sym (eq-eqb a c e)
      | inr e ↦ ap (λ (x : Bool). x && true) (ne_eqb c a (λ z. e (sym z))) ∙ sym (ne_eqb a c e)
    ]

odd_place : (d t : ℕ) → t < d → odd d (λ c. eqb t c) ≡ true
odd_place d t l = sym (odd_same d (λ c. eqb c t && true) (λ c. eqb t c) (λ c k. eqb_flip t c)) ∙ odd_one d t (λ c. true) l

odd_ends : (d : ℕ) (a b : ℕ → ℕ) (i : ℕ) → a i < d → b i < d → odd d (λ c. ends a b i c) ≡ false
odd_ends d a b i la lb = odd_differ d (λ c. eqb (a i) c) (λ c. eqb (b i) c) ∙ ap₂ differ (odd_place d (a i) la) (odd_place d (b i) lb)

-- over all places the touches of any routes are even
all_even : (n d : ℕ) (a b : ℕ → ℕ) → ((i : ℕ) → i < n → a i < d) → ((i : ℕ) → i < n → b i < d) → (P : Elements)
    → odd d (λ c. odd n (λ i. P i && ends a b i c)) ≡ false
all_even n d a b la lb P =
    odd_swap d n (λ c i. P i && ends a b i c)
    ∙ odd_none n (λ i. odd d (λ c. P i && ends a b i c))
    (λ i l. and_odd d (P i) (λ c. ends a b i c) ∙ and_right (P i) (odd d (λ c. ends a b i c)) (odd_ends d a b i (la i l) (lb i l)))

-- a sum with one place left
odd_alone : (d q : ℕ) (f : ℕ → Bool) → q < d → ((c : ℕ) → c < d → (c ≡ q → ⊥) → f c ≡ false) → odd d f ≡ f q
odd_alone d q f l h =
    odd_same d f (λ c. eqb c q && f c) (λ c k. elim (cases_eq c q) [
      | inl e ↦ ap (λ (x : Bool). x && f c) (sym (eq-eqb c q e))
      | inr e ↦ h c k e ∙ ap (λ (x : Bool). x && f c) (sym (ne_eqb c q e))
    ])
    ∙ odd_one d q f l

row_false : (p t x : Bool) → (p ≡ true → t ≡ true) → (t ≡ true → x ≡ false) → (p && x) ≡ false
row_false true t x h k = k (h refl)
row_false false t x h k = refl

pub cyclic : (n d : ℕ) (a b : ℕ → ℕ) → ((i : ℕ) → i < n → a i < d) → ((i : ℕ) → i < n → b i < d)
    → (T U : Elements) (q : ℕ) → q < d → U q ≡ true
    → ((i : ℕ) → i < n → T i ≡ true → (c : ℕ) → U c ≡ false → ends a b i c ≡ false)
    → count d U ≤ count n T → (P : Elements) × EvenPart n d a b T P
cyclic n d a b la lb T U q l u out h =
    let s = count_without d U q l u in
    let k : Cancelled n T d (without U q) (ends a b) = kernel n T d (without U q) (ends a b) (omega arith) in
    let other : (c : ℕ) → c < d → (c ≡ q → ⊥) → odd n (λ i. k.rows i && ends a b i c) ≡ false =
    λ c m e. elim (cases_Bool (U c)) [
      | inl z ↦ k.zeros c m (without_from U q c e z)
      | inr z ↦ odd_none n (λ i. k.rows i && ends a b i c) (λ i j. row_false (k.rows i) (T i) (ends a b i c) (k.inside i) (λ t. out i j t c z))
    ] in (
      k.rows,
      dependency_even n d a b T k.rows (record {
        some = record { member = k.member; below = k.below; has = k.has; inside = λ i _. k.inside i };
        even = λ c m. elim (cases_eq c q) [
          | inl e ↦
              ap (λ (x : ℕ). odd n (λ i. k.rows i && ends a b i x)) e
              ∙ sym (odd_alone d q (λ c. odd n (λ i. k.rows i && ends a b i c)) l other) ∙ all_even n d a b la lb k.rows
          | inr e ↦ other c m e
        ];
      }),
    )
