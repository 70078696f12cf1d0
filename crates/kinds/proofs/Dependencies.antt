-- The parts of a set whose vectors cancel: independent sets have none, and the others have one.
use Rattle.std.proofs.Common.{◌≡◌, ℕ, ◌<◌, Bool, true, false, not, ◌&&◌, ◌||◌, sym, refl, ap, ◌∙◌, inl, inr}
use Rattle.std.proofs.lemmas.Bool.{cases_Bool, and_parts, and_from, both_ways, not-true, not-false, not_from_false}
use Rattle.matroid.specs.Sets.{Elements, cut, every}
use Rattle.kinds.specs.Kinds.{Columns, partly, cancels, any_part, binary}
use Rattle.kinds.specs.Meanings.{Dependency}
use Rattle.kinds.proofs.Odd.{odd_same}
use Rattle.matroid.proofs.Members.{every_true, every_from, every_false}
use Rattle.kinds.proofs.Parts.{any_found, any_hit, cut_below, cut_above}

implies : (a b : Bool) → (not a || b) ≡ true → a ≡ true → b ≡ true
implies true b h e = h
implies false b h e = absurd (both_ways false refl e)

implied : (a b : Bool) → (a ≡ true → b ≡ true) → (not a || b) ≡ true
implied true b h = h refl
implied false b h = refl

some_passes : (n : ℕ) (P : Elements) (i : ℕ) → i < n → P i ≡ true → every n (λ i. not (P i)) ≡ false
some_passes n P i l h =
    elim (cases_Bool (every n (λ i. not (P i)))) [
      | inl e ↦ absurd (both_ways (P i) (not-true (P i) (every_true n (λ i. not (P i)) e i l)) h)
      | inr e ↦ e
    ]

-- the tests of a part, and what they say
pub dependency_from : (n d : ℕ) (column : Columns) (S P : Elements) → (partly n P S && cancels n d column P) ≡ true → Dependency n d column S P
dependency_from n d column S P h =
    let (a, b) = and_parts (partly n P S) (cancels n d column P) h in
    let (f, g) = and_parts (not (every n (λ i. not (P i)))) (every n (λ i. not (P i) || S i)) a in
    let (i, l, e) = every_false n (λ i. not (P i)) (not-true (every n (λ i. not (P i))) f) in
    record {
      some = record { member = i; below = l; has = not-false (P i) e; inside = λ j k. implies (P j) (S j) (every_true n _ g j k) };
      even = λ c k. not-true _ (every_true d _ b c k);
    }

pub dependency_tests : (n d : ℕ) (column : Columns) (S P : Elements) → Dependency n d column S P → (partly n P S && cancels n d column P) ≡ true
dependency_tests n d column S P k =
    and_from (partly n P S) (cancels n d column P)
    (and_from (not (every n (λ i. not (P i)))) (every n (λ i. not (P i) || S i))
    (not_from_false (every n (λ i. not (P i))) (some_passes n P k.some.member k.some.below k.some.has))
    (every_from n _ (λ i l. implied (P i) (S i) (k.some.inside i l))))
    (every_from d _ (λ c l. not_from_false _ (k.even c l)))

-- only the members below n matter
pub dependency_like : (n d : ℕ) (column : Columns) (S T P Q : Elements) → ((i : ℕ) → i < n → S i ≡ true → T i ≡ true) → ((i : ℕ) → i < n → Q i ≡ P i)
    → Dependency n d column S P → Dependency n d column T Q
dependency_like n d column S T P Q h e k = record {
  some = record {
    member = k.some.member;
    below = k.some.below;
    has = e k.some.member k.some.below ∙ k.some.has;
    inside = λ i l q. h i l (k.some.inside i l (sym (e i l) ∙ q));
  };
  even = λ c l. odd_same n _ _ (λ i b. ap (λ (x : Bool). x && column i c) (e i b)) ∙ k.even c l;
}

pub dependency_more : (n d : ℕ) (column : Columns) (S T P : Elements) → ((i : ℕ) → i < n → S i ≡ true → T i ≡ true) → Dependency n d column S P → Dependency n d column T P
dependency_more n d column S T P h = dependency_like n d column S T P P h (λ i l. refl)

-- an independent set has no such part
pub no_dependency : (n d : ℕ) (column : Columns) (S : Elements) → (binary n d column).independent S ≡ true → (P : Elements) → Dependency n d column S P → ⊥
no_dependency n d column S h P k =
    both_ways (any_part n (λ P. partly n P S && cancels n d column P)) (not-true _ h)
    (any_hit n (λ P. partly n P S && cancels n d column P) (cut n P) (cut_above n P)
    (dependency_tests n d column S (cut n P) (dependency_like n d column S S P (cut n P) (λ i l s. s) (cut_below n P) k)))

-- any other set has one
pub a_dependency : (n d : ℕ) (column : Columns) (S : Elements) → (binary n d column).independent S ≡ false → (P : Elements) × Dependency n d column S P
a_dependency n d column S h =
    let (P, e) = any_found n (λ P. partly n P S && cancels n d column P) (not-false _ h) in
    (P, dependency_from n d column S P e)

-- a set without such a part is independent
pub no_dependency_independent : (n d : ℕ) (column : Columns) (S : Elements) → ((P : Elements) → Dependency n d column S P → ⊥) → (binary n d column).independent S ≡ true
no_dependency_independent n d column S h =
    elim (cases_Bool ((binary n d column).independent S)) [
      | inl e ↦ e
      | inr e ↦ let (P, k) = a_dependency n d column S e in absurd (h P k)
    ]
