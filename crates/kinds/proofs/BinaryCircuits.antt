-- Whatever part of an independent S with e cancels, it is the circuit.
use Rattle.std.proofs.Common.{◌≡◌, ℕ, ◌<◌, Bool, true, false, ◌&&◌, ◌⊎◌, sym, refl, ap, ◌∙◌, ap₂, inl, inr}
use Rattle.std.proofs.lemmas.Bool.{cases_eq, cases_Bool, and_parts, and_from, both_ways}
use Rattle.matroid.specs.Sets.{Elements, with, without}
use Rattle.matroid.specs.Circuits.{circuit, IsCircuit}
use Rattle.kinds.specs.Kinds.{differ, Columns, binary}
use Rattle.kinds.specs.Meanings.{Dependency}
use Rattle.kinds.proofs.Odd.{differ_and, odd_same, odd_differ}
use Rattle.matroid.proofs.Members.{with_other, without_parts, without_here, without_other}
use Rattle.kinds.proofs.Below.{same_tests}
use Rattle.kinds.proofs.Dependencies.{dependency_more, no_dependency, no_dependency_independent}
use Rattle.kinds.proofs.Binary.{dependency_has}

differ_cases : (a b : Bool) → differ a b ≡ true → (a ≡ true) ⊎ (b ≡ true)
differ_cases true b h = inl refl
differ_cases false b h = inr h

-- two parts of S with e that cancel have the same members
sole : (n d : ℕ) (column : Columns) (S : Elements) (e : ℕ) → (binary n d column).independent S ≡ true
    → (C D : Elements) → Dependency n d column (with S e) C → Dependency n d column (with S e) D → (i : ℕ) → i < n → C i ≡ true → D i ≡ true
sole n d column S e h C D k q i l c =
    elim (cases_Bool (D i)) [
      | inl z ↦ z
      | inr z ↦ absurd (no_dependency n d column S h (λ j. differ (C j) (D j)) (record {
        some = record {
          member = i;
          below = l;
          has = ap₂ differ c z;
          inside = λ j b t. elim (cases_eq j e) [
            | inl y ↦
                absurd (both_ways (differ (C j) (D j))
                (ap₂ differ (ap C y ∙ dependency_has n d column S e h C k) (ap D y ∙ dependency_has n d column S e h D q)) t)
            | inr y ↦
                sym (with_other S e j y) ∙ elim (differ_cases (C j) (D j) t) [ inl u ↦ k.some.inside j b u | inr u ↦ q.some.inside j b u ]
          ];
        };
        even = λ a b.
            odd_same n _ (λ j. differ (C j && column j a) (D j && column j a)) (λ j _. differ_and (C j) (D j) (column j a))
            ∙ odd_differ n (λ j. C j && column j a) (λ j. D j && column j a)
            ∙ ap₂ differ (k.even a b) (q.even a b);
      }))
    ]

-- a part of S with e that lacks x lies in S with e without x
lacking : (n d : ℕ) (column : Columns) (S : Elements) (e x : ℕ) (C : Elements) → C x ≡ false → Dependency n d column (with S e) C
    → Dependency n d column (without (with S e) x) C
lacking n d column S e x C f k = record {
  some = record {
    member = k.some.member;
    below = k.some.below;
    has = k.some.has;
    inside = λ i l c. without_other (with S e) x i (λ z. both_ways (C i) (ap C z ∙ f) c) ∙ k.some.inside i l c;
  };
  even = k.even;
}

pub binary_circuit : (n d : ℕ) (column : Columns) (S : Elements) (e : ℕ) → (binary n d column).independent S ≡ true
    → (C : Elements) → Dependency n d column (with S e) C → IsCircuit (binary n d column) S e C
binary_circuit n d column S e h C k i l =
    same_tests (C i) (circuit (binary n d column) S e i)
    (λ c. and_from (with S e i) ((binary n d column).independent (without (with S e) i)) (k.some.inside i l c)
    (no_dependency_independent n d column (without (with S e) i) (λ D q.
    let r = dependency_more n d column (without (with S e) i) (with S e) D (λ j _ w. (without_parts (with S e) i j w).1) q in
    both_ways (without (with S e) i i) (without_here (with S e) i) (q.some.inside i l (sole n d column S e h C D k r i l c)))))
    (λ t. elim (cases_Bool (C i)) [
      | inl z ↦ z
      | inr z ↦
          let (a, b) = and_parts (with S e i) ((binary n d column).independent (without (with S e) i)) t in
          absurd (no_dependency n d column (without (with S e) i) b C (lacking n d column S e i C z k))
    ])
