-- The formula gives a circuit, and the only one.
use Rattle.std.proofs.Common.{◌≡◌, ℕ, ◌<◌, ◌≤◌, true, false, sym, refl, ◌∙◌, subst, inl, inr, arith}
use Rattle.std.proofs.lemmas.Bool.{both_ways, and_from, and_parts, or_cases, cases_Bool, cases_eq, cases_lt}
use Rattle.matroid.specs.Sets.{Elements, with, without, Part, count}
use Rattle.matroid.specs.Matroids.{Meaning, Laws}
use Rattle.matroid.specs.Circuits.{Circuit, Closes, circuit}
use Rattle.matroid.proofs.Members.{with_here, with_there, with_cases, with_part, without_parts, without_from, without_other, same_in, none_false, missing}
use Rattle.matroid.proofs.Counts.{count_with, count_without, extra, full}
use Rattle.matroid.proofs.Growth.{grow}

pub circuit_inside : (m : Meaning) (S : Elements) (e i : ℕ) → circuit m S e i ≡ true → with S e i ≡ true
circuit_inside m S e i k = (and_parts (with S e i) (m.independent (without (with S e) i)) k).0

pub circuit_without : (m : Meaning) (S : Elements) (e i : ℕ) → circuit m S e i ≡ true → m.independent (without (with S e) i) ≡ true
circuit_without m S e i k = (and_parts (with S e i) (m.independent (without (with S e) i)) k).1

module _ (m : Meaning) (laws : Laws m) (S : Elements) (e : ℕ) (c : Closes m S e) where
  pub circuit_has : circuit m S e e ≡ true
  circuit_has = and_from (with S e e) (m.independent (without (with S e) e)) (with_here S e)
      (laws.part (without (with S e) e) S (λ i l k. let p = without_parts (with S e) e i k in
      elim (with_cases S e i p.1) [ inl q ↦ absurd (p.0 q) | inr q ↦ q ]) c.independent)

  new : S e ≡ false
  new = none_false (S e) (λ q. both_ways (m.independent (with S e)) c.dependent
      (laws.part (with S e) S (with_part m.size S S e (λ i li k. k) q) c.independent))

  no_larger : (P : Elements) → m.independent P ≡ true → Part m.size P (with S e) → count m.size P ≤ count m.size S
  no_larger P p h = elim (cases_lt (count m.size S) (count m.size P)) [
    | inl k ↦
        let x = laws.exchange S P c.independent p k in
        elim (with_cases S e x.0 (h x.0 x.1 x.2)) [
          | inl q ↦ absurd (both_ways (m.independent (with S e)) c.dependent (subst (λ (j : ℕ). m.independent (with S j) ≡ true) q x.4))
          | inr q ↦ absurd (both_ways (S x.0) x.3 q)
        ]
    | inr k ↦ k
  ]

  -- an independent part of S with e lacks some x, without which S with e is independent
  spared : (P : Elements) → m.independent P ≡ true → Part m.size P (with S e)
      → (x : ℕ) × (x < m.size) × (with S e x ≡ true) × (P x ≡ false) × (m.independent (without (with S e) x) ≡ true)
  spared P p h =
      let W : Elements = with S e in
      let g = grow m laws P S p c.independent (no_larger P p h) in
      let I : Elements = g.set in
      let a = count_with m.size S e c.below new in
      let b = g.as_many in
      let y = extra m.size I W (omega arith) in
      let x : ℕ = y.0 in
      let V : Elements = without W x in
      let inV : Part m.size I V = λ i li k. without_from W x i (λ r. both_ways (I x) y.3 (same_in I x i (sym {b = x} r) k))
      (elim (or_cases (P i) (S i) (g.inside i li k)) [ inl q ↦ h i li q | inr q ↦ with_there S e i q ]) in
      let d = count_without m.size W x y.1 y.2 in
      (x, y.1, y.2, none_false (P x) (λ q. both_ways (I x) y.3 (g.has x y.1 q)), laws.part V I (full m.size I V inV (omega arith)) g.independent)

  pub circuit_dependent : m.independent (circuit m S e) ≡ false
  circuit_dependent = none_false (m.independent (circuit m S e)) (λ z.
      let x = spared (circuit m S e) z (λ i l k. circuit_inside m S e i k) in
      both_ways (circuit m S e x.0) x.3 (and_from (with S e x.0) (m.independent (without (with S e) x.0)) x.2 x.4))

  -- where C lacks x, it lies in S with e without x
  lies : (C : Elements) → Part m.size C (with S e) → (x : ℕ) → C x ≡ false → Part m.size C (without (with S e) x)
  lies C h x k i l q = without_from (with S e) x i (λ y. both_ways (C x) k (same_in C x i (sym {b = x} y) q)) (h i l q)

  pub circuit_is : Circuit m S e (circuit m S e)
  circuit_is = record {
    inside = λ i li k. circuit_inside m S e i k;
    dependent = circuit_dependent;
    minimal = λ P p h.
        let x = missing m.size (circuit m S e) P h in
        laws.part P (without (with S e) x.0) (lies P (λ i l k. circuit_inside m S e i (p i l k)) x.0 x.3) (circuit_without m S e x.0 x.2);
  }

  -- a circuit has each x without which S with e is independent
  kept : (C : Elements) → Circuit m S e C → (x : ℕ) → m.independent (without (with S e) x) ≡ true → C x ≡ false → ⊥
  kept C k x v z = both_ways (m.independent C) k.dependent (laws.part C (without (with S e) x) (lies C k.inside x z) v)

  -- without a member of a circuit, S with e is independent
  opened : (C : Elements) → Circuit m S e C → (g : ℕ) → g < m.size → C g ≡ true → m.independent (without (with S e) g) ≡ true
  opened C k g l h =
      let D : Elements = without C g in
      let d = k.minimal D (λ i li q. (without_parts C g i q).1) (λ all. (without_parts C g g (all g l h)).0 refl) in
      let x = spared D d (λ i li q. k.inside i li (without_parts C g i q).1) in
      elim (cases_eq x.0 g) [
        | inl q ↦ subst (λ (j : ℕ). m.independent (without (with S e) j) ≡ true) q x.4
        | inr q ↦ absurd (kept C k x.0 x.4 (sym (without_other C g x.0 q) ∙ x.3))
      ]

  pub circuit_unique : (C : Elements) → Circuit m S e C → (i : ℕ) → i < m.size → C i ≡ circuit m S e i
  circuit_unique C k i l =
      elim (cases_Bool (C i)) [
        | inl h ↦ h ∙ sym (and_from (with S e i) (m.independent (without (with S e) i)) (k.inside i l h) (opened C k i l h))
        | inr h ↦ h ∙ sym (none_false (circuit m S e i) (λ z. kept C k i (circuit_without m S e i z) h))
      ]
