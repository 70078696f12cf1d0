-- Routes are binary: a place is touched an even number of times where its coordinate cancels.
use Rattle.std.proofs.Common.{◌≡◌, ℕ, zero, suc, ◌+◌, Bool, true, false, cond, not, ◌&&◌, eqb, ◌↔◌, sym, refl, ap, ◌∙◌, ap₂, zero-add, arith}
use mathlib.Core.Path.{subst⁻¹}
use Rattle.std.proofs.lemmas.Bool.{both_ways, not-true, not_from_false}
use Rattle.matroid.specs.Sets.{Elements, with, Part}
use Rattle.matroid.specs.Matroids.{Meaning, Laws}
use Rattle.matroid.specs.Circuits.{circuit, IsCircuit}
use Rattle.kinds.specs.Kinds.{differ, odd, even, touches, any_part, partly, Columns, binary, routes}
use Rattle.kinds.specs.Meanings.{Dependency, EvenPart}
use Rattle.kinds.proofs.Odd.{differ_self}
use Rattle.kinds.proofs.Below.{every_same}
use Rattle.kinds.proofs.Dependencies.{no_dependency, no_dependency_independent}
use Rattle.kinds.proofs.BinaryCircuits.{binary_circuit}
use Rattle.kinds.proofs.Binary.{binary_laws}

-- the vector of route i: a one at a place that is exactly one of its two ends
abbrev pub ends : (ℕ → ℕ) → (ℕ → ℕ) → Columns
ends a b i c = differ (eqb (a i) c) (eqb (b i) c)

not_not : (a : Bool) → not (not a) ≡ a
not_not true = refl
not_not false = refl

turned : (x y : Bool) → not (not (differ (not x) (not y))) ≡ not (differ (not (not x)) (not y))
turned true true = refl
turned true false = refl
turned false true = refl
turned false false = refl

-- a sum is even where both parts are, or neither is
even_sum : (a b : ℕ) → even (a + b) ≡ not (differ (not (even a)) (not (even b)))
even_sum zero b = ap even (zero-add b) ∙ sym (not_not (even b))
even_sum (suc a) b = let e : suc a + b ≡ suc (a + b) = omega arith in ap even e ∙ ap not (even_sum a b) ∙ turned (even a) (even b)

even_one : (p s t : Bool) → not (even (cond {A = ℕ} p (cond s 1 0 + cond t 1 0) 0)) ≡ (p && differ s t)
even_one true true true = refl
even_one true true false = refl
even_one true false true = refl
even_one true false false = refl
even_one false s t = refl

pub even_touches : (n : ℕ) (a b : ℕ → ℕ) (P : Elements) (c : ℕ) → even (touches n a b P c) ≡ not (odd n (λ i. P i && ends a b i c))
even_touches zero a b P c = refl
even_touches (suc n) a b P c =
    even_sum (cond {A = ℕ} (P n) (cond (eqb (a n) c) 1 0 + cond (eqb (b n) c) 1 0) 0) (touches n a b P c)
    ∙ ap₂ (λ (x y : Bool). not (differ x y)) (even_one (P n) (eqb (a n) c) (eqb (b n) c)) (ap not (even_touches n a b P c) ∙ not_not (odd n (λ i. P i && ends a b i c)))

pub routes_binary : (n d : ℕ) (a b : ℕ → ℕ) → routes n d a b ≡ binary n d (ends a b)
routes_binary n d a b =
    λ k. record {
      size = n;
      independent = λ S. not (any_part n (λ P. partly n P S
          && every_same d (λ c. even (touches n a b P c)) (λ c. not (odd n (λ i. P i && ends a b i c))) (λ c l. even_touches n a b P c) k));
    }

pub routes_laws : (n d : ℕ) (a b : ℕ → ℕ) → Laws (routes n d a b)
routes_laws n d a b = subst⁻¹ Laws (routes_binary n d a b) (binary_laws n d (ends a b))

-- even numbers are the doubles
pub even_double : (k m : ℕ) → m ≡ k + k → even m ≡ true
even_double k m h = ap even h ∙ even_sum k k ∙ ap not (differ_self (not (even k)))

pub double_even : (m : ℕ) → even m ≡ true → (k : ℕ) × (m ≡ k + k)
double_even zero h = (0, refl)
double_even (suc zero) h = absurd (both_ways false refl h)
double_even (suc (suc m)) h = let (k, e) = double_even m (sym (not_not (even m)) ∙ h) in (suc k, omega arith)

pub even_dependency : (n d : ℕ) (a b : ℕ → ℕ) (S P : Elements) → EvenPart n d a b S P → Dependency n d (ends a b) S P
even_dependency n d a b S P t = record {
  some = t.some;
  even = λ c l. let (k, e) = t.twice c l in not-true _ (sym (even_touches n a b P c) ∙ even_double k (touches n a b P c) e);
}

pub dependency_even : (n d : ℕ) (a b : ℕ → ℕ) (S P : Elements) → Dependency n d (ends a b) S P → EvenPart n d a b S P
dependency_even n d a b S P t = record {
  some = t.some;
  twice = λ c l. double_even (touches n a b P c) (even_touches n a b P c ∙ not_from_false _ (t.even c l));
}

-- an even part of a part is one of the whole
pub even_part_more : (n d : ℕ) (a b : ℕ → ℕ) (S T P : Elements) → Part n S T → EvenPart n d a b S P → EvenPart n d a b T P
even_part_more n d a b S T P h t = record {
  some = record { member = t.some.member; below = t.some.below; has = t.some.has; inside = λ i l p. h i l (t.some.inside i l p) };
  twice = t.twice;
}

-- independence in words
pub routes_words : (n d : ℕ) (a b : ℕ → ℕ) (S : Elements) → ((routes n d a b).independent S ≡ true) ↔ ((P : Elements) → EvenPart n d a b S P → ⊥)
routes_words n d a b S =
    let e : (routes n d a b).independent S ≡ (binary n d (ends a b)).independent S = ap (λ (m : Meaning). m.independent S) (routes_binary n d a b) in (
      (λ h P t. no_dependency n d (ends a b) S (sym e ∙ h) P (even_dependency n d a b S P t)),
      (λ h. e ∙ no_dependency_independent n d (ends a b) S (λ P k. h P (dependency_even n d a b S P k))),
    )

-- whatever part of an independent S with e touches each place an even number of times, it is the circuit
pub routes_circuit : (n d : ℕ) (a b : ℕ → ℕ) (S : Elements) (e : ℕ) → (routes n d a b).independent S ≡ true
    → (C : Elements) → EvenPart n d a b (with S e) C → IsCircuit (routes n d a b) S e C
routes_circuit n d a b S e h C t i l =
    binary_circuit n d (ends a b) S e (sym (ap (λ (m : Meaning). m.independent S) (routes_binary n d a b)) ∙ h) C (even_dependency n d a b (with S e) C t) i l
    ∙ ap (λ (m : Meaning). circuit m S e i) (sym (routes_binary n d a b))
