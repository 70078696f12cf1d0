-- What a walk leaves behind it, settled or open.
use Rattle.std.proofs.Common.{◌≡◌, ℕ, zero, suc, ◌+◌, ◌<◌, ◌≤◌, true, false, not, ◌||◌, eqb, leb, ◌⊎◌, sym, refl, subst, inl, inr, arith}
use Rattle.std.proofs.lemmas.Bool.{both_ways, not-true, not-false, leb-true, leb-false, eqb-true, eqb-false, or_cases, or_parts, cases_Bool, cond_both}
use Rattle.matroid.specs.Sets.{Elements, nothing, with, Part, count}
use Rattle.matroid.specs.Matroids.{Meaning, Laws}
use Rattle.matroid.specs.Circuits.{Closes, circuit}
use Rattle.matroid.proofs.Members.{with_here, with_there, with_cases, none_true, every_true, every_false}
use Rattle.matroid.proofs.Counts.{count_none, count_with, count_all, gap}
use Rattle.matroid.proofs.Circuits.{circuit_inside, circuit_dependent}
use Rattle.promise.specs.Walks.{earliest, Ended, settled, open_at, topped, onward, walk}
use Rattle.promise.proofs.Orders.{Before, earliest_found}
use Rattle.entry.specs.Entries.{Entry, low, high}

-- d closed a dependent set over K, in which every other high is at most d's low
pub record Dropped (m : Meaning) (E : ℕ → Entry) (K : Elements) (d : ℕ) : Type 0 where
  pub closed : Elements
  pub inside : Part m.size closed (with K d)
  pub dependent : m.independent closed ≡ false
  pub topped : (x : ℕ) → x < m.size → closed x ≡ true → (x ≡ d → ⊥) → high (E x) ≤ low (E d)

pub record Settled (m : Meaning) (E : ℕ → Entry) (K : Elements) : Type 0 where
  pub independent : m.independent K ≡ true
  pub placed : (d : ℕ) → d < m.size → (K d ≡ true) ⊎ Dropped m E K d

pub record Open (m : Meaning) (E : ℕ → Entry) (C : Elements) : Type 0 where
  pub kept : Elements
  pub closing : ℕ
  pub closes : Closes m kept closing
  pub is : C ≡ circuit m kept closing
  pub kept_below : (f : ℕ) → kept f ≡ true → f < m.size
  pub before : (f : ℕ) → kept f ≡ true → Before E f closing
  pub placed : (d : ℕ) → d < m.size → (kept d ≡ true) ⊎ (Dropped m E kept d ⊎ Before E closing d)
  pub wide : (x : ℕ) × (x < m.size) × (C x ≡ true) × (x ≡ closing → ⊥) × (low (E closing) < high (E x))

abbrev pub Walked : Meaning → (ℕ → Entry) → Ended → Type 0
Walked m E (settled K) = Settled m E K
Walked m E (open_at C) = Open m E C

-- a walk under way: T is taken, K of it is kept, and k are left
record UnderWay (m : Meaning) (E : ℕ → Entry) (k : ℕ) (T K : Elements) : Type 0 where
  independent : m.independent K ≡ true
  left : count m.size T + k ≡ m.size
  kept_below : (f : ℕ) → K f ≡ true → f < m.size
  before : (f : ℕ) → K f ≡ true → (j : ℕ) → j < m.size → T j ≡ false → Before E f j
  placed : (d : ℕ) → d < m.size → T d ≡ true → (K d ≡ true) ⊎ Dropped m E K d

-- e is the next to be taken
record Turn (m : Meaning) (E : ℕ → Entry) (T : Elements) (e : ℕ) : Type 0 where
  below : e < m.size
  untaken : T e ≡ false
  first : (j : ℕ) → j < m.size → T j ≡ false → Before E e j

dropped_more : (m : Meaning) (E : ℕ → Entry) (K L : Elements) (d : ℕ) → ((i : ℕ) → K i ≡ true → L i ≡ true) → Dropped m E K d → Dropped m E L d
dropped_more m E K L d h p = record {
  closed = p.closed;
  inside = λ i l k. elim (with_cases K d i (p.inside i l k)) [
    | inl q ↦ subst (λ (j : ℕ). with L d j ≡ true) (sym q) (with_here L d)
    | inr q ↦ with_there L d i (h i q)
  ];
  dependent = p.dependent;
  topped = p.topped;
}

topped_true : (n : ℕ) (E : ℕ → Entry) (C : Elements) (e : ℕ) → topped n E C e ≡ true → (x : ℕ) → x < n → C x ≡ true → (x ≡ e → ⊥) → high (E x) ≤ low (E e)
topped_true n E C e h x l c d =
    elim (or_cases (not (C x)) _ (every_true n (λ y. not (C y) || (eqb y e || leb (high (E y)) (low (E e)))) h x l)) [
      | inl p ↦ absurd (both_ways (C x) (not-true (C x) p) c)
      | inr p ↦ elim (or_cases (eqb x e) _ p) [ inl q ↦ absurd (d (eqb-true x e q)) | inr q ↦ leb-true (high (E x)) (low (E e)) q ]
    ]

topped_false : (n : ℕ) (E : ℕ → Entry) (C : Elements) (e : ℕ) → topped n E C e ≡ false
    → (x : ℕ) × (x < n) × (C x ≡ true) × (x ≡ e → ⊥) × (low (E e) < high (E x))
topped_false n E C e h =
    let x = every_false n (λ y. not (C y) || (eqb y e || leb (high (E y)) (low (E e)))) h in
    let p = or_parts (not (C x.0)) _ x.2 in
    let q = or_parts (eqb x.0 e) _ p.1 in
    (x.0, x.1, not-false (C x.0) p.0, eqb-false x.0 e q.0, leb-false (high (E x.0)) (low (E e)) q.1)

module _ (m : Meaning) (laws : Laws m) (E : ℕ → Entry) where
  turn : (k : ℕ) (T K : Elements) → UnderWay m E (suc k) T K → Turn m E T (earliest m.size E T)
  turn k T K u =
      let a = u.left in
      let x = gap m.size T (omega arith) in
      let f = earliest_found E m.size T x.0 x.1 x.2 in
      record { below = f.0; untaken = f.1; first = f.2 }

  module _ (k : ℕ) (T K : Elements) (e : ℕ) (u : UnderWay m E (suc k) T K) (t : Turn m E T e) where
    one_left : count m.size (with T e) + k ≡ m.size
    one_left = let a = u.left in let b = count_with m.size T e t.below t.untaken in omega arith

    was : (j : ℕ) → with T e j ≡ false → T j ≡ false
    was j h = (or_parts (eqb j e) (T j) h).1

    keep_on : m.independent (with K e) ≡ true → UnderWay m E k (with T e) (with K e)
    keep_on h = record {
      independent = h;
      left = one_left;
      kept_below = λ f q. elim (with_cases K e f q) [ inl z ↦ let b = t.below in omega arith | inr z ↦ u.kept_below f z ];
      before = λ f q j l n. elim (with_cases K e f q) [
        | inl z ↦ subst (λ (x : ℕ). Before E x j) (sym z) (t.first j l (was j n))
        | inr z ↦ u.before f z j l (was j n)
      ];
      placed = λ d l q. elim (with_cases T e d q) [
        | inl z ↦ inl (subst (λ (j : ℕ). with K e j ≡ true) (sym z) (with_here K e))
        | inr z ↦ elim (u.placed d l z) [ inl p ↦ inl (with_there K e d p) | inr p ↦ inr (dropped_more m E K (with K e) d (with_there K e) p) ]
      ];
    }

    closes : m.independent (with K e) ≡ false → Closes m K e
    closes h = record { below = t.below; independent = u.independent; dependent = h }

    drop_on : m.independent (with K e) ≡ false → topped m.size E (circuit m K e) e ≡ true → UnderWay m E k (with T e) K
    drop_on h z = record {
      independent = u.independent;
      left = one_left;
      kept_below = u.kept_below;
      before = λ f q j l n. u.before f q j l (was j n);
      placed = λ d l q. elim (with_cases T e d q) [ inl y ↦ inr (subst (λ (j : ℕ). Dropped m E K j) (sym y) gone) | inr y ↦ u.placed d l y ];
    }
      where
        gone : Dropped m E K e
        gone = record {
          closed = circuit m K e;
          inside = λ i l q. circuit_inside m K e i q;
          dependent = circuit_dependent m laws K e (closes h);
          topped = topped_true m.size E (circuit m K e) e z;
        }

    stop_at : m.independent (with K e) ≡ false → topped m.size E (circuit m K e) e ≡ false → Open m E (circuit m K e)
    stop_at h z = record {
      kept = K;
      closing = e;
      closes = closes h;
      is = refl;
      kept_below = u.kept_below;
      before = λ f q. u.before f q e t.below t.untaken;
      placed = λ d l. elim (cases_Bool (T d)) [
        | inl q ↦ elim (u.placed d l q) [ inl p ↦ inl p | inr p ↦ inr (inl p) ]
        | inr q ↦ inr (inr (t.first d l q))
      ];
      wide = topped_false m.size E (circuit m K e) e z;
    }

  onward_walked : (k : ℕ) (T K : Elements) → UnderWay m E k T K → Walked m E (onward k m E T K)
  onward_walked zero T K u = record {
    independent = u.independent;
    placed = λ d l. u.placed d l (none_true (T d) (λ h.
        let a = count_with m.size T d l h in let b = count_all m.size (with T d) in let c = u.left in omega arith));
  }
  onward_walked (suc k) T K u =
      let e : ℕ = earliest m.size E T in
      let t = turn k T K u in
      cond_both (m.independent (with K e)) _ _ (Walked m E)
      (λ h. onward_walked k (with T e) (with K e) (keep_on k T K e u t h))
      (λ h. cond_both (topped m.size E (circuit m K e) e) _ _ (Walked m E)
      (λ z. onward_walked k (with T e) K (drop_on k T K e u t h z))
      (λ z. stop_at k T K e u t h z))

  pub walked : Walked m E (walk m E)
  walked = onward_walked m.size nothing nothing (record {
    independent = laws.none;
    left = let a = count_none m.size nothing (λ i l. refl) in omega arith;
    kept_below = λ f k. absurd (both_ways false refl k);
    before = λ f k. absurd (both_ways false refl k);
    placed = λ d l k. absurd (both_ways false refl k);
  })
