-- What the reduced words say of a set.
use Rattle.std.proofs.Common.{◌≡◌, ℕ, ◌<◌, ◌≤◌, Bool, true, false, not, ◌&&◌, ◌||◌, eqb, ltb, sym, refl, ap, ◌∙◌, ap₂, inl, inr, arith}
use Rattle.std.proofs.lemmas.Bool.{cases_eq, cases_Bool, eq-eqb, ne_eqb, eqb-true, and_parts, and_from, both_ways, lt-ltb, ltb-true}
use Rattle.matroid.specs.Sets.{Elements, with, cut, Part}
use Rattle.matroid.proofs.Members.{none_false, with_cases}
use Rattle.kinds.specs.Kinds.{differ, odd, bit}
use Rattle.kinds.proofs.Odd.{differ_self, differ_and, odd_same, odd_none, odd_one, odd_differ}
use Rattle.words.specs.Reductions.{Cancels, Reduced, Covered}

-- e with the members whose bits it has
abbrev pub combination : ℕ → (ℕ → ℕ) → Elements → ℕ → (ℕ → ℕ) → Elements
combination e v S i p k = eqb k e || (cut i S k && bit (v e) (p k))

or_differ : (a b : Bool) → (a ≡ true → b ≡ false) → (a || b) ≡ differ a b
or_differ true b h = ap not (sym (h refl))
or_differ false b h = refl

alone_and : (t x y : Bool) → (t ≡ true → y ≡ false) → ((t && x) && y) ≡ false
alone_and true true y h = h refl
alone_and true false y h = refl
alone_and false x y h = refl

module _ (n : ℕ) (w v : ℕ → ℕ) (S : Elements) (i : ℕ) (p : ℕ → ℕ) (u : ℕ → Bool) (s : Reduced n w v S i p u) where
  in_cut : (k : ℕ) → cut i S k ≡ true → (k < i) × (S k ≡ true)
  in_cut k h = let (a, b) = and_parts (ltb k i) (S k) h in (ltb-true k i a, b)

  -- the one of k
  own : (k : ℕ) → cut i S k ≡ true → (c : ℕ) → c < 64 → bit (v k) c ≡ eqb c (p k)
  own k h c l = let (a, b) = in_cut k h in s.units k a b c l

  -- at a bit that is not used the members have no ones
  no_one : (k : ℕ) → cut i S k ≡ true → (c : ℕ) → c < 64 → u c ≡ false → bit (v k) c ≡ false
  no_one k h c l z =
      let (a, b) = in_cut k h in
      own k h c l ∙ ne_eqb c (p k) (λ e. both_ways (u c) z (ap u e ∙ s.used k a b))

  -- the ones of the members that e has
  rest : (e c : ℕ) → i ≤ n → c < 64 → Covered (v e) u → odd n (λ k. (cut i S k && bit (v e) (p k)) && bit (v k) c) ≡ bit (v e) c
  rest e c m l covered =
      elim (cases_Bool (u c)) [
        | inl z ↦
            let (o, a, b, q) = s.pivot c l z in
            odd_same n _ (λ k. eqb k o && bit (v e) c)
            (λ k _. elim (cases_eq k o) [
              | inl y ↦
                  let f : cut i S k ≡ true = and_from (ltb k i) (S k) (lt-ltb k i (omega arith)) (ap S y ∙ b) in
                  let g : bit (v k) c ≡ true = own k f c l ∙ eq-eqb c (p k) (sym q ∙ ap p (sym y)) in
                  ap₂ (λ (x z : Bool). (x && bit (v e) (p k)) && z) f g
                  ∙ flip (bit (v e) (p k)) ∙ ap (bit (v e)) (ap p y ∙ q) ∙ ap (λ (x : Bool). x && bit (v e) c) (sym (eq-eqb k o y))
              | inr y ↦
                  alone_and (cut i S k) (bit (v e) (p k)) (bit (v k) c)
                  (λ f. let (d, h) = in_cut k f in own k f c l ∙ ne_eqb c (p k) (λ x. y (s.apart k o d a h b (sym x ∙ sym q))))
                  ∙ ap (λ (x : Bool). x && bit (v e) c) (sym (ne_eqb k o y))
            ])
            ∙ odd_one n o (λ k. bit (v e) c) (omega arith)
        | inr z ↦
            odd_none n _ (λ k _. alone_and (cut i S k) (bit (v e) (p k)) (bit (v k) c) (λ f. no_one k f c l z))
            ∙ sym (none_false (bit (v e) c) (λ x. both_ways (u c) z (covered c l x)))
      ]
    where
      flip : (x : Bool) → ((true && x) && true) ≡ x
      flip true = refl
      flip false = refl

  -- e with the members whose bits it has cancels
  pub combination_cancels : (e : ℕ) → e < n → i ≤ n → cut i S e ≡ false → Covered (v e) u → Cancels n v (combination e v S i p)
  combination_cancels e l m z covered c d =
      odd_same n _ (λ k. differ (eqb k e && bit (v k) c) ((cut i S k && bit (v e) (p k)) && bit (v k) c))
      (λ k _.
      ap (λ (x : Bool). x && bit (v k) c) (or_differ (eqb k e) (cut i S k && bit (v e) (p k))
      (λ y. ap (λ (x : Bool). x && bit (v e) (p k)) (ap (cut i S) (eqb-true k e y) ∙ z)))
      ∙ differ_and (eqb k e) (cut i S k && bit (v e) (p k)) (bit (v k) c))
      ∙ odd_differ n (λ k. eqb k e && bit (v k) c) (λ k. (cut i S k && bit (v e) (p k)) && bit (v k) c)
      ∙ ap₂ differ (odd_one n e (λ k. bit (v k) c) l) (rest e c m d covered)
      ∙ differ_self (bit (v e) c)

  one_of : (P : Elements) (k c : ℕ) → k < n → P k ≡ true → bit (v k) c ≡ true → ((j : ℕ) → j < n → P j ≡ true → (j ≡ k → ⊥) → bit (v j) c ≡ false)
      → odd n (λ j. P j && bit (v j) c) ≡ true
  one_of P k c l h o z =
      odd_same n _ (λ j. eqb j k && true) (λ j b. elim (cases_eq j k) [
        | inl e ↦ ap₂ ◌&&◌ (ap P e ∙ h) (ap (λ (x : ℕ). bit (v x) c) e ∙ o) ∙ ap (λ (x : Bool). x && true) (sym (eq-eqb j k e))
        | inr e ↦ nothing_here (P j) (bit (v j) c) (λ q. z j b q e) ∙ ap (λ (x : Bool). x && true) (sym (ne_eqb j k e))
      ])
      ∙ odd_one n k (λ j. true) l
    where
      nothing_here : (x y : Bool) → (x ≡ true → y ≡ false) → (x && y) ≡ false
      nothing_here true y h = h refl
      nothing_here false y h = refl

  -- no part of the members cancels
  pub none_cancels : (P : Elements) → Part n P (cut i S) → Cancels n v P → (k : ℕ) → k < n → P k ≡ true → ⊥
  none_cancels P inside h k l q =
      let f = inside k l q in
      let (a, b) = in_cut k f in
      let m = s.below k a b in
      both_ways (odd n (λ j. P j && bit (v j) (p k))) (h (p k) m)
      (one_of P k (p k) l q (own k f (p k) m ∙ eq-eqb (p k) (p k) refl)
      (λ j x y z. let g = inside j x y in let (d, e) = in_cut j g in own j g (p k) m ∙ ne_eqb (p k) (p j) (λ t. z (s.apart j k d a e b (sym t)))))

  -- nor with e, if e has a one at a bit that is not used
  pub none_with : (e c : ℕ) → e < n → c < 64 → u c ≡ false → bit (v e) c ≡ true
      → (P : Elements) → Part n P (with (cut i S) e) → Cancels n v P → (k : ℕ) → k < n → P k ≡ true → ⊥
  none_with e c l d z o P inside h k m q =
      elim (cases_Bool (P e)) [
        | inl x ↦
            both_ways (odd n (λ j. P j && bit (v j) c)) (h c d)
            (one_of P e c l x o (λ j a b y. elim (with_cases (cut i S) e j (inside j a b)) [ inl f ↦ absurd (y f) | inr f ↦ no_one j f c d z ]))
        | inr x ↦
            none_cancels P
            (λ j a b. elim (with_cases (cut i S) e j (inside j a b)) [ inl f ↦ absurd (both_ways (P j) (ap P f ∙ x) b) | inr f ↦ f ])
            h k m q
      ]
