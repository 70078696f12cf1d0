-- A cheapest base has the most members under every threshold, and not the strict maximum of a circuit.
use Rattle.std.proofs.Common.{◌≡◌, ℕ, ◌<◌, ◌≤◌, true, false, ltb, sym, refl, ◌∙◌, subst, inl, inr, arith}
use Rattle.std.proofs.lemmas.Bool.{both_ways, le-ltb, and_right, or_cases, cases_eq, cases_lt}
use Rattle.matroid.specs.Sets.{Elements, with, without, Part, count, under}
use Rattle.matroid.specs.Matroids.{Meaning, Laws}
use Rattle.matroid.specs.Bases.{Base, Cheapest}
use Rattle.matroid.specs.Circuits.{Circuit}
use Rattle.matroid.specs.Theorems.{MostUnder}
use Rattle.matroid.proofs.Members.{with_here, with_there, with_cases, without_parts, without_from, with_part, under_parts, under_from, none_false}
use Rattle.matroid.proofs.Counts.{sum_part, sum_with, sum_without, count_with, count_without, extra}
use Rattle.matroid.proofs.Growth.{grow, base_top, base_by_count}

module _ (m : Meaning) (laws : Laws m) (v : ℕ → ℕ) (B : Elements) (cheapest : Cheapest m v B) where
  base : Base m B
  base = cheapest.base

  -- x for a member at or above the threshold t: a base with a smaller sum
  swapped : (t x : ℕ) → x < m.size → B x ≡ false → v x < t → m.independent (with (under v t B) x) ≡ true → ⊥
  swapped t x l out low ind =
      let U : Elements = under v t B in
      let g = grow m laws (with U x) B ind base.independent (base_top m laws B (with U x) base ind) in
      let A : Elements = g.set in
      let has : A x ≡ true = g.has x l (with_here U x) in
      let P : Elements = without A x in
      let inside : Part m.size P B = λ i li k.
      let p = without_parts A x i k in
      elim (or_cases (with U x i) (B i) (g.inside i li p.1)) [
        | inl q ↦ elim (with_cases U x i q) [ inl r ↦ absurd (p.0 r) | inr r ↦ (under_parts v t B i r).0 ]
        | inr q ↦ q
      ] in
      let c = count_without m.size A x l has in
      let s = sum_without m.size v A x l has in
      let c2 = g.as_many in
      let y = extra m.size P B (omega arith) in
      let big : t ≤ v y.0 = elim (cases_lt (v y.0) t) [
        | inl k ↦ absurd (both_ways (P y.0) y.3 (without_from A x y.0
            (λ e. both_ways (B x) out (subst (λ (j : ℕ). B j ≡ true) e y.2))
            (g.has y.0 y.1 (with_there U x y.0 (under_from v t B y.0 y.2 k)))))
        | inr k ↦ k
      ] in
      let more = sum_part m.size v (with P y.0) B (with_part m.size P B y.0 inside y.2) in
      let s2 = sum_with m.size v P y.0 y.1 y.3 in
      let fin = cheapest.least A (base_by_count m laws A B base g.independent g.as_many) in
      omega arith

  -- no independent set under a threshold has more members than the base has there
  pub under_most : (t : ℕ) (I : Elements) → m.independent I ≡ true → ((i : ℕ) → i < m.size → I i ≡ true → v i < t) → count m.size I ≤ count m.size (under v t B)
  under_most t I ind h =
      elim (cases_lt (count m.size (under v t B)) (count m.size I)) [
        | inl l ↦
            let bu = laws.part (under v t B) B (λ j l q. (under_parts v t B j q).0) base.independent in
            let x = laws.exchange (under v t B) I bu ind l in
            let low = h x.0 x.1 x.2 in
            absurd (swapped t x.0 x.1 (none_false (B x.0) (λ q. both_ways (under v t B x.0) x.3 (under_from v t B x.0 q low))) low x.4)
        | inr l ↦ l
      ]

  under_self : (f : ℕ) → under v (v f) B f ≡ false
  under_self f = and_right (B f) (ltb (v f) (v f)) (le-ltb (v f) (v f) (omega arith))

  -- the strict maximum of a dependent set that is independent without it
  pub top_out : (C : Elements) (f : ℕ) → f < m.size → m.independent C ≡ false → m.independent (without C f) ≡ true
      → ((x : ℕ) → x < m.size → C x ≡ true → (x ≡ f → ⊥) → v x < v f) → B f ≡ false
  top_out C f lf dep ind h = none_false (B f) (λ bf.
      let U : Elements = under v (v f) B in
      let D : Elements = without C f in
      let bu = laws.part U B (λ j l q. (under_parts v (v f) B j q).0) base.independent in
      let low : (i : ℕ) → i < m.size → D i ≡ true → v i < v f = λ i l k. let p = without_parts C f i k in h i l p.1 p.0 in
      let g = grow m laws D U ind bu (under_most (v f) D ind low) in
      let I : Elements = g.set in
      let lowI : (i : ℕ) → i < m.size → I i ≡ true → v i < v f = λ i l k. elim (or_cases (D i) (U i) (g.inside i l k)) [ inl q ↦ low i l q | inr q ↦ (under_parts v (v f) B i q).1 ] in
      let bf2 = laws.part (with U f) B (with_part m.size U B f (λ j l q. (under_parts v (v f) B j q).0) bf) base.independent in
      let c = count_with m.size U f lf (under_self f) in
      let c2 = g.as_many in
      let x = laws.exchange I (with U f) g.independent bf2 (omega arith) in
      elim (with_cases U f x.0 x.2) [
        | inl e ↦ both_ways (m.independent C) dep (laws.part C (with I x.0) (λ i l k.
            elim (cases_eq i f) [
              | inl q ↦ subst (λ (j : ℕ). with I x.0 j ≡ true) (e ∙ sym q) (with_here I x.0)
              | inr q ↦ with_there I x.0 i (g.has i l (without_from C f i q k))
            ]) x.4)
        | inr q ↦
            let c3 = count_with m.size I x.0 x.1 x.3 in
            let c4 = under_most (v f) (with I x.0) x.4 (λ i l k. elim (with_cases I x.0 i k) [
              | inl r ↦ subst (λ (j : ℕ). v j < v f) (sym r) (under_parts v (v f) B x.0 q).1
              | inr r ↦ lowI i l r
            ]) in
            omega arith
      ])

  -- the strict maximum of a circuit
  pub maximum_out : (S : Elements) (e : ℕ) (C : Elements) → Circuit m S e C → (f : ℕ) → f < m.size → C f ≡ true
      → ((x : ℕ) → x < m.size → C x ≡ true → (x ≡ f → ⊥) → v x < v f) → B f ≡ false
  maximum_out S e C k f l h =
      top_out C f l k.dependent (k.minimal (without C f) (λ i li q. (without_parts C f i q).1) (λ all. (without_parts C f f (all f l h)).0 refl))

  pub most_under : MostUnder m v B
  most_under t I i = under_most t (under v t I) (laws.part (under v t I) I (λ j l q. (under_parts v t I j q).0) i) (λ j l q. (under_parts v t I j q).1)
