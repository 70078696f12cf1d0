-- No element stands twice in a ledger.
use Rattle.std.proofs.Common.{◌≡◌, ℕ, suc, Bool, true, false, cond, eqb, ◌⊎◌, List, [], ◌∷◌, ◌++◌, None, Option, sym, refl, ap, subst, inl, inr}
use Rattle.std.proofs.lemmas.Bool.{both_ways, or_cases, or_left, or_right, or_parts, eqb-true, eqb-false, false≢true}
use Rattle.element.specs.declared.Line.{Line}
use Rattle.entry.specs.Entries.{Entry, Known, Range, known, inside}
use Rattle.matroid.specs.Matroids.{Meaning}
use Rattle.matroid.proofs.Members.{none_false}
use Rattle.source.specs.Supplies.{verdict}
use Rattle.promise.specs.Surveys.{Source, State, fresh, priced, line, Plan, rest, ask, next, paid_for, step, notable, note}
use Rattle.promise.specs.Calls.{Call, step_with, run_with, note_of, report_into, did, after}
use Rattle.promise.specs.Claims.{elements_of, Apart}
use Rattle.promise.proofs.Pricing.{known_stays, priced_here}
use Rattle.promise.proofs.Stepping.{acted, tried_keeps, steps_keep}

-- the lines are for different elements, all of them known
record Separate (s : State) : Type 0 where
  apart : Apart s.ledger
  known_all : (i : ℕ) → elements_of s.ledger i ≡ true → known (s.entries i) ≡ true

inside_unknown : (x : Entry) (p : ℕ) → inside x p ≡ true → known x ≡ false
inside_unknown (Known q) p h = absurd (false≢true h)
inside_unknown (Range l u) p h = refl

-- one more line
elements_push : (ls : List Line) (l : Line) (i : ℕ) → elements_of (ls ++ (l ∷ [])) i ≡ true → (i ≡ l.element) ⊎ (elements_of ls i ≡ true)
elements_push [] l i h = elim (or_cases (eqb i l.element) false h) [ inl q ↦ inl (eqb-true i l.element q) | inr q ↦ absurd (false≢true q) ]
elements_push (x ∷ xs) l i h = elim (or_cases (eqb i x.element) (elements_of (xs ++ (l ∷ [])) i) h) [
  | inl q ↦ inr (or_left (eqb i x.element) (elements_of xs i) q)
  | inr q ↦ elim (elements_push xs l i q) [ inl r ↦ inl r | inr r ↦ inr (or_right (eqb i x.element) (elements_of xs i) r) ]
]

apart_push : (ls : List Line) (l : Line) → Apart ls → elements_of ls l.element ≡ false → Apart (ls ++ (l ∷ []))
apart_push [] l a n = (refl, tt)
apart_push (x ∷ xs) l a n =
    let p = or_parts (eqb l.element x.element) (elements_of xs l.element) n in (
      none_false _ (λ h. elim (elements_push xs l x.element h) [
        | inl q ↦ eqb-false l.element x.element p.0 (sym q)
        | inr q ↦ both_ways (elements_of xs x.element) a.0 q
      ]),
      apart_push xs l a.1 p.1,
    )

separate_paid : (s : State) (e p : ℕ) (q : Option ℕ) → Separate s → inside (s.entries e) p ≡ true → Separate (paid_for s e p q)
separate_paid s e p q h i = record {
  apart = apart_push s.ledger (line e p) h.apart (none_false _ (λ t. both_ways (known (s.entries e)) (inside_unknown (s.entries e) p i) (h.known_all e t)));
  known_all = λ j t. elim (elements_push s.ledger (line e p) j t) [
    | inl r ↦ subst (λ (k : ℕ). known (priced s.entries e p k) ≡ true) (sym r) (ap known (priced_here s.entries e p))
    | inr r ↦ known_stays s.entries e p j (h.known_all j r)
  ];
}

module _ (m : Meaning) where
  separate_step : (j : ℕ) (s : State) (σ : Source) → Separate s → Separate (step m s σ).survey
  separate_step j s σ h = by_plan (next m s)
    where
      by_plan : (x : Plan) → Separate (acted s σ x).survey
      by_plan (rest K) = h
      by_plan (ask e q) = tried_keeps (λ k t. Separate t) 0 None s σ e q h (λ p t. separate_paid s e p q h t) (verdict σ.supply e)

  separate_note : (s : State) (e p : ℕ) → Separate s → Separate (note m s e p)
  separate_note s e p h = by_test (notable m s e p)
    where
      by_test : (b : Bool) → Separate (cond b (record { entries = priced s.entries e p; ledger = s.ledger; pending = s.pending }) s)
      by_test true = record { apart = h.apart; known_all = λ j t. known_stays s.entries e p j (h.known_all j t) }
      by_test false = h

  separate_did : (s : State) (c : Call) → Separate s → Separate (did m s c)
  separate_did s (step_with σ) h = separate_step 0 s σ h
  separate_did s (run_with σ) h =
      steps_keep m (λ τ. Unit {0}) (λ t τ q. tt) (λ k. Separate) (λ j t τ q i. separate_step j t τ i) (suc m.size) 0 s σ tt h
  separate_did s (note_of e p) h = separate_note s e p h
  separate_did s (report_into marks) h = h

  separate_after : (s : State) (cs : List Call) → Separate s → Separate (after m s cs)
  separate_after s [] h = h
  separate_after s (c ∷ cs) h = separate_after (did m s c) cs (separate_did s c h)

  pub apart_after : (E : ℕ → Entry) (cs : List Call) → Apart (after m (fresh E) cs).ledger
  apart_after E cs = (separate_after (fresh E) cs (record { apart = tt; known_all = λ i t. absurd (false≢true t) })).apart
