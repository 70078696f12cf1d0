-- The outcome from the reduced words.
use Rattle.std.proofs.Common.{◌≡◌, ℕ, ◌<◌, ◌≤◌, Bool, true, false, ◌&&◌, ◌||◌, eqb, ltb, List, length, Some, None, Ok, sym, refl, ap, ◌∙◌, subst, inl, inr, arith}
use Rattle.std.proofs.lemmas.Bool.{eq-eqb, eqb-true, and_parts, and_from, or_cases, or_left, lt-ltb, le-ltb, both_ways}
use Rattle.matroid.specs.Sets.{Elements, with, cut, Part}
use Rattle.matroid.proofs.Members.{none_false, with_cases, with_here, with_there}
use Rattle.kinds.specs.Kinds.{bit, words}
use Rattle.matroid.specs.Circuits.{IsCircuit}
use Rattle.matroid.specs.Questions.{marked}
use Rattle.matroid.specs.Outcomes.{OutcomeOf}
use Rattle.kinds.specs.Meanings.{Dependency}
use Rattle.kinds.proofs.Dependencies.{no_dependency, no_dependency_independent}
use Rattle.kinds.proofs.BinaryCircuits.{binary_circuit}
use Rattle.kinds.specs.Lists.{at, words_of}
use Rattle.words.specs.declared.elimination.Table.{Table}
use Rattle.words.specs.Reductions.{word_at, pivot_at, Reduced, ReducedBy, Covered, FreeBit}
use Rattle.words.proofs.Reduced.{combination, combination_cancels, none_cancels, none_with}

cut_in : (i : ℕ) (S : Elements) (k : ℕ) → cut i S k ≡ true → S k ≡ true
cut_in i S k h = (and_parts (ltb k i) (S k) h).1

cut_all : (n : ℕ) (S : Elements) → Part n S (cut n S)
cut_all n S k l h = and_from (ltb k n) (S k) (lt-ltb k n l) h

cut_at : (i : ℕ) (S : Elements) → cut i S i ≡ false
cut_at i S = ap (λ (b : Bool). b && S i) (le-ltb i i (omega arith))

module _ (n : ℕ) (w v : ℕ → ℕ) (S : Elements) (i : ℕ) (p : ℕ → ℕ) (u : ℕ → Bool) (s : Reduced n w v S i p u) where
  -- the combination of e lies in any set that has e and the members before i
  combination_dependency : (e : ℕ) → e < n → i ≤ n → cut i S e ≡ false → Covered (v e) u → (T : Elements) → T e ≡ true → Part n S T
      → Dependency n 64 (λ i c. bit (w i) c) T (combination e v S i p)
  combination_dependency e l m z covered T t h = record {
    some = record {
      member = e;
      below = l;
      has = or_left (eqb e e) (cut i S e && bit (v e) (p e)) (eq-eqb e e refl);
      inside = λ k b q. elim (or_cases (eqb k e) (cut i S k && bit (v e) (p k)) q) [
        | inl x ↦ ap T (eqb-true k e x) ∙ t
        | inr x ↦ h k b (cut_in i S k (and_parts (cut i S k) (bit (v e) (p k)) x).0)
      ];
    };
    even = s.equivalent.back (combination e v S i p) (combination_cancels n w v S i p u s e l m z covered);
  }

  -- element i of S has no bit of its own: S is dependent
  pub covered_dependent : i < n → S i ≡ true → Covered (v i) u → (words n w).independent S ≡ false
  covered_dependent l h covered =
      none_false ((words n w).independent S) (λ d.
      no_dependency n 64 (λ i c. bit (w i) c) S d (combination i v S i p) (combination_dependency i l (omega arith) (cut_at i S) covered S h (λ k b q. q)))

module _ (n : ℕ) (w v : ℕ → ℕ) (S : Elements) (p : ℕ → ℕ) (u : ℕ → Bool) (s : Reduced n w v S n p u) where
  pub reduced_independent : (words n w).independent S ≡ true
  reduced_independent = no_dependency_independent n 64 (λ i c. bit (w i) c) S (λ P k.
      none_cancels n w v S n p u s P (λ j l q. cut_all n S j l (k.some.inside j l q)) (s.equivalent.forth P k.even) k.some.member k.some.below k.some.has)

  pub uncovered_independent : (e c : ℕ) → e < n → c < 64 → u c ≡ false → bit (v e) c ≡ true → (words n w).independent (with S e) ≡ true
  uncovered_independent e c l d z o = no_dependency_independent n 64 (λ i c. bit (w i) c) (with S e) (λ P k.
      none_with n w v S n p u s e c l d z o P
      (λ j b q. elim (with_cases S e j (k.some.inside j b q)) [
        | inl x ↦ ap (with (cut n S) e) x ∙ with_here (cut n S) e
        | inr x ↦ with_there (cut n S) e j (cut_all n S j b x)
      ])
      (s.equivalent.forth P k.even) k.some.member k.some.below k.some.has)

  covered_with : (e : ℕ) → e < n → S e ≡ false → Covered (v e) u → Dependency n 64 (λ i c. bit (w i) c) (with S e) (combination e v S n p)
  covered_with e l z covered =
      combination_dependency n w v S n p u s e l (omega arith) (none_false (cut n S e) (λ f. both_ways (S e) z (cut_in n S e f))) covered (with S e) (with_here S e)
      (λ k b q. with_there S e k q)

  pub covered_with_dependent : (e : ℕ) → e < n → S e ≡ false → Covered (v e) u → (words n w).independent (with S e) ≡ false
  covered_with_dependent e l z covered =
      none_false ((words n w).independent (with S e)) (λ d. no_dependency n 64 (λ i c. bit (w i) c) (with S e) d (combination e v S n p) (covered_with e l z covered))

  pub covered_circuit : (e : ℕ) → e < n → S e ≡ false → Covered (v e) u
      → (C : Elements) → ((k : ℕ) → k < n → C k ≡ (eqb k e || (S k && bit (v e) (p k)))) → IsCircuit (words n w) S e C
  covered_circuit e l z covered C h k b =
      h k b ∙ ap (λ (x : Bool). eqb k e || ((x && S k) && bit (v e) (p k))) (sym (lt-ltb k n b))
      ∙ binary_circuit n 64 (λ i c. bit (w i) c) S e reduced_independent (combination e v S n p) (covered_with e l z covered) k b

-- the outcome that the code finds once each element of the set is taken in; i and x are again the number of the words and e
module _ (ws : List ℕ) (set : List Bool) (t : Table) (i : ℕ) (all : i ≡ length ws) (r : ReducedBy ws set i t) (e x : ℕ) (same : x ≡ e) (l : e < length ws) where
  whole : Reduced (length ws) (at ws) (word_at t.rows) (marked set) (length ws) (pivot_at t.rows) (marked t.used)
  whole = let q = subst (λ (k : ℕ). ReducedBy ws set k t) all r in q.reduced

  word : word_at t.rows x ≡ word_at t.rows e
  word = ap (word_at t.rows) same

  pub uncovered_outcome : (c : ℕ) → FreeBit (word_at t.rows x) (marked t.used) (Some c) → OutcomeOf (words_of ws) (marked set) e (Ok None)
  uncovered_outcome c (d, o, z, _) = (
    reduced_independent (length ws) (at ws) (word_at t.rows) (marked set) (pivot_at t.rows) (marked t.used) whole,
    uncovered_independent (length ws) (at ws) (word_at t.rows) (marked set) (pivot_at t.rows) (marked t.used) whole e c l d z
        (ap (λ (w : ℕ). bit w c) (sym word) ∙ o),
  )

  pub covered_outcome : marked set e ≡ false → FreeBit (word_at t.rows x) (marked t.used) None → (C : List Bool)
      → ((k : ℕ) → k < length ws → marked C k ≡ (eqb k x || (marked set k && bit (word_at t.rows x) (pivot_at t.rows k))))
      → OutcomeOf (words_of ws) (marked set) e (Ok (Some C))
  covered_outcome z h C g =
      let covered : Covered (word_at t.rows e) (marked t.used) = subst (λ (w : ℕ). Covered w (marked t.used)) word h in (
        reduced_independent (length ws) (at ws) (word_at t.rows) (marked set) (pivot_at t.rows) (marked t.used) whole,
        covered_with_dependent (length ws) (at ws) (word_at t.rows) (marked set) (pivot_at t.rows) (marked t.used) whole e l z covered,
        covered_circuit (length ws) (at ws) (word_at t.rows) (marked set) (pivot_at t.rows) (marked t.used) whole e l z covered (marked C)
            (λ k b. g k b ∙ ap (λ (y : ℕ). eqb k y || (marked set k && bit (word_at t.rows y) (pivot_at t.rows k))) same),
      )
