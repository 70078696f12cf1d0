-- What a set spans.
use Rattle.std.proofs.Common.{◌≡◌, ℕ, ◌<◌, ◌≤◌, true, false, sym, inl, inr, arith}
use Rattle.std.proofs.lemmas.Bool.{both_ways, or_cases, cases_Bool, cases_lt}
use Rattle.matroid.specs.Sets.{Elements, with, count}
use Rattle.matroid.specs.Matroids.{Meaning, Laws}
use Rattle.matroid.specs.Theorems.{Spanned}
use Rattle.matroid.proofs.Members.{with_here, with_there, with_cases, with_part, with_all, same_in}
use Rattle.matroid.proofs.Counts.{count_with}
use Rattle.matroid.proofs.Growth.{grow}

module _ (m : Meaning) (laws : Laws m) where
  -- where X spans A, and A spans f, X spans f
  pub span : (X A : Elements) (f : ℕ) → f < m.size → ((d : ℕ) → d < m.size → A d ≡ true → Spanned m X d)
      → m.independent A ≡ true → m.independent (with A f) ≡ false → X f ≡ false → m.independent (with X f) ≡ true → ⊥
  span X A f lf h a dep out ind =
      let xi = laws.part X (with X f) (with_all m.size X f) ind in
      let never : (d : ℕ) → d < m.size → A d ≡ true → X d ≡ false → m.independent (with X d) ≡ true → ⊥ = λ d l k o i.
      elim (h d l k) [ inl q ↦ both_ways (X d) o q | inr q ↦ both_ways (m.independent (with X d)) q i ] in
      let fits : count m.size A ≤ count m.size X = elim (cases_lt (count m.size X) (count m.size A)) [
        | inl l ↦ let x = laws.exchange X A xi a l in absurd (never x.0 x.1 x.2 x.3 x.4)
        | inr l ↦ l
      ] in
      let g = grow m laws A X a xi fits in
      let I : Elements = g.set in
      let c = count_with m.size X f lf out in
      let c2 = g.as_many in
      let x = laws.exchange I (with X f) g.independent ind (omega arith) in
      elim (with_cases X f x.0 x.2) [
        | inl e ↦ both_ways (m.independent (with A f)) dep (laws.part (with A f) (with I x.0)
            (with_part m.size A (with I x.0) f (λ i l k. with_there I x.0 i (g.has i l k)) (same_in (with I x.0) f x.0 (sym e) (with_here I x.0))) x.4)
        | inr q ↦
            let c3 = count_with m.size I x.0 x.1 x.3 in
            let y = laws.exchange X (with I x.0) xi x.4 (omega arith) in
            elim (with_cases I x.0 y.0 y.2) [
              | inl r ↦ both_ways (X y.0) y.3 (same_in X y.0 x.0 r q)
              | inr r ↦ elim (or_cases (A y.0) (X y.0) (g.inside y.0 y.1 r)) [
                | inl s ↦ never y.0 y.1 s y.3 y.4
                | inr s ↦ both_ways (X y.0) y.3 s
              ]
            ]
      ]

  -- the same, as what lies in the span of X
  pub span_of_span : (X A : Elements) → m.independent A ≡ true → ((d : ℕ) → d < m.size → A d ≡ true → Spanned m X d)
      → (f : ℕ) → f < m.size → Spanned m A f → Spanned m X f
  span_of_span X A a h f l s =
      elim s [
        | inl q ↦ h f l q
        | inr q ↦ elim (cases_Bool (X f)) [
          | inl x ↦ inl x
          | inr x ↦ elim (cases_Bool (m.independent (with X f))) [ inl i ↦ absurd (span X A f l h a q x i) | inr i ↦ inr i ]
        ]
      ]
