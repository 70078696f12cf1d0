-- What the core says of a set.
use Rattle.std.proofs.Common.{◌≡◌, ℕ, ◌+◌, ◌<◌, ◌≤◌, Bool, true, false, cond, eqb, ltb, refl, ap, ◌∙◌, inl, inr, arith}
use Rattle.std.proofs.lemmas.Bool.{cases_eq, cases_Bool, cases_lt, both_ways, cond-true, cond-false, ltb-true, ltb-false, lt-ltb, eq-eqb}
use Rattle.matroid.specs.Sets.{Elements, with, without, count}
use Rattle.matroid.proofs.Members.{none_false, without_parts, without_from, with_cases}
use Rattle.matroid.proofs.Counts.{sum_without, count_without, count_part}
use Rattle.kinds.proofs.Routes.{ends, even_part_more, routes_words, routes_circuit}
use Rattle.routes.proofs.Totals.{touch_total, total_mono, squeezed, total_double}
use Rattle.routes.proofs.Cycles.{cyclic}
use Rattle.matroid.specs.Circuits.{IsCircuit}
use Rattle.kinds.specs.Kinds.{differ, touches, routes, touch}
use Rattle.routes.specs.Cores.{Core}

-- whether P touches c
abbrev touched : ℕ → (ℕ → ℕ) → (ℕ → ℕ) → Elements → Elements
touched n a b P c = ltb 0 (touches n a b P c)

touch_ends : (p q : Bool) → cond {A = ℕ} p 1 0 + cond {A = ℕ} q 1 0 ≡ 0 → differ p q ≡ false
touch_ends true q h = absurd (omega arith)
touch_ends false true h = absurd (omega arith)
touch_ends false false h = refl

-- no route of P ends at a place that P does not touch
apart : (n : ℕ) (a b : ℕ → ℕ) (P : Elements) (i : ℕ) → i < n → P i ≡ true → (c : ℕ) → touched n a b P c ≡ false → ends a b i c ≡ false
apart n a b P i l p c t =
    let x = sum_without n (touch a b c) P i l p in
    let y = ltb-false 0 (touches n a b P c) t in
    touch_ends (eqb (a i) c) (eqb (b i) c) (omega arith)

-- a place that P touches
at_end : (n : ℕ) (a b : ℕ → ℕ) (P : Elements) (i : ℕ) → i < n → P i ≡ true → touched n a b P (a i) ≡ true
at_end n a b P i l p =
    let x = sum_without n (touch a b (a i)) P i l p in
    let y = cond-true {A = ℕ} (eqb (a i) (a i)) 1 0 (eq-eqb (a i) (a i) refl) in
    lt-ltb 0 (touches n a b P (a i)) (omega arith)

module _ (n d : ℕ) (a b : ℕ → ℕ) (la : (i : ℕ) → i < n → a i < d) (lb : (i : ℕ) → i < n → b i < d) where
  -- each touched place is touched twice
  doubled : (S R : Elements) → Core n d a b S R → (c : ℕ) → c < d → cond (touched n a b R c) 2 0 ≤ touches n a b R c
  doubled S R k c l =
      elim (cases_Bool (touched n a b R c)) [
        | inl e ↦
            let x = cond-true {A = ℕ} (touched n a b R c) 2 0 e in
            let y = ltb-true 0 (touches n a b R c) e in
            let z : touches n a b R c ≡ 1 → ⊥ = k.no_leaf c l in
            elim (cases_eq (touches n a b R c) 1) [ inl w ↦ absurd (z w) | inr w ↦ omega arith ]
        | inr e ↦ let x = cond-false {A = ℕ} (touched n a b R c) 2 0 e in omega arith
      ]

  -- so there are at least as many routes as places
  enough : (S R : Elements) → Core n d a b S R → count d (touched n a b R) ≤ count n R
  enough S R k =
      let x = total_mono d (touches n a b R) (λ c. cond (touched n a b R c) 2 0) (doubled S R k) in
      let y = total_double d (touched n a b R) in
      let z = touch_total d n a b R la lb in
      omega arith

  pub core_none : (S R : Elements) → Core n d a b S R → ((i : ℕ) → i < n → R i ≡ false) → (routes n d a b).independent S ≡ true
  core_none S R k h =
      (routes_words n d a b S).1 (λ P t. both_ways (R t.some.member) (h t.some.member t.some.below)
      (k.even_parts P t t.some.member t.some.below t.some.has))

  pub core_some : (S R : Elements) → Core n d a b S R → (i : ℕ) → i < n → R i ≡ true → (routes n d a b).independent S ≡ false
  core_some S R k i l r =
      none_false ((routes n d a b).independent S) (λ h.
      let (P, t) = cyclic n d a b la lb R (touched n a b R) (a i) (la i l) (at_end n a b R i l r) (apart n a b R) (enough S R k) in
      (routes_words n d a b S).0 h P (even_part_more n d a b R S P k.inside t))

  -- S has no even part, so without e there are fewer routes than places
  fewer : (S : Elements) (e : ℕ) (R : Elements) → (routes n d a b).independent S ≡ true → Core n d a b (with S e) R
      → (i : ℕ) → i < n → R i ≡ true → count n (without R e) < count d (touched n a b R)
  fewer S e R h k i l r =
      elim (cases_lt (count n (without R e)) (count d (touched n a b R))) [
        | inl x ↦ x
        | inr x ↦
            let (P, t) = cyclic n d a b la lb (without R e) (touched n a b R) (a i) (la i l) (at_end n a b R i l r)
            (λ j m w. apart n a b R j m (without_parts R e j w).1) x in
            absurd ((routes_words n d a b S).0 h P (even_part_more n d a b (without R e) S P
            (λ j m w. let (y, z) = without_parts R e j w in elim (with_cases S e j (k.inside j m z)) [ inl u ↦ absurd (y u) | inr u ↦ u ]) t))
      ]

  scarce : (S : Elements) (e : ℕ) (R : Elements) → e < n → (routes n d a b).independent S ≡ true → Core n d a b (with S e) R
      → (i : ℕ) → i < n → R i ≡ true → count n R ≤ count d (touched n a b R)
  scarce S e R m h k i l r =
      let f = fewer S e R h k i l r in
      elim (cases_Bool (R e)) [
        | inl x ↦ let y = count_without n R e m x in omega arith
        | inr x ↦ let y = count_part n R (without R e) (λ j _ z. without_from R e j (λ u. both_ways (R j) (ap R u ∙ x) z) z) in omega arith
      ]

  -- what is left of an independent set with one more route is its circuit
  pub core_circuit : (S : Elements) (e : ℕ) (R : Elements) → e < n → (routes n d a b).independent S ≡ true → Core n d a b (with S e) R
      → (i : ℕ) → i < n → R i ≡ true → IsCircuit (routes n d a b) S e R
  core_circuit S e R m h k i l r =
      let x = scarce S e R m h k i l r in
      let y = total_double d (touched n a b R) in
      let z = touch_total d n a b R la lb in
      routes_circuit n d a b S e h R (record {
        some = record { member = i; below = l; has = r; inside = k.inside };
        twice = λ c o.
            let w = squeezed d (touches n a b R) (λ c. cond (touched n a b R c) 2 0) (doubled (with S e) R k) (omega arith) c o in
            elim (cases_Bool (touched n a b R c)) [
              | inl u ↦ (1, w ∙ cond-true {A = ℕ} (touched n a b R c) 2 0 u)
              | inr u ↦ (0, w ∙ cond-false {A = ℕ} (touched n a b R c) 2 0 u)
            ];
      })
