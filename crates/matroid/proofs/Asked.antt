-- What is known from the answer to a question that is not refused.
use Rattle.std.proofs.Common.{◌≡◌, ℕ, ◌<◌, ◌≤◌, Bool, true, false, ◌&&◌, ◌||◌, eqb, ltb, leb, List, length, take, Ok, Err, sym, ap, ◌∙◌, inl, inr, arith}
use lib.ListN.{get_or-eq_default}
use Rattle.std.proofs.lemmas.List.{take_all}
use Rattle.std.proofs.lemmas.Bool.{cases_Bool, cases_lt, le-ltb, lt-leb, ne_eqb, cond-true, cond-false, and_left, and_right, or_from}
use Rattle.element.specs.Marks.{all_marks}
use Rattle.fault.specs.Refusals.{Refusal}
use Rattle.matroid.specs.declared.Closing.TheVariants.{Independent, Circuit}
use Rattle.matroid.specs.Sets.{with}
use Rattle.matroid.specs.Matroids.{Meaning}
use Rattle.matroid.specs.Circuits.{circuit}
use Rattle.matroid.specs.Questions.{marked, shown, lowest_mark, apart, admitted, Reply, closing, replied, questioned}
use Rattle.matroid.proofs.Members.{lowest_none}
use Rattle.matroid.proofs.Marks.{length_shown, shown_here}
use Rattle.matroid.proofs.Replies.{Admitted}

-- a question to m that is not refused, and has an answer
pub record Askable (m : Meaning) (e : ℕ) (members : List Bool) : Type 0 where
  pub admitted : Admitted m.size e members
  pub independent : m.independent (marked members) ≡ true

module _ (m : Meaning) (e : ℕ) (members marks : List Bool) (long : length members ≡ all_marks) (room : length marks ≡ all_marks) (a : Askable m e members) where
  admitted_all : admitted m.size members e marks ≡ Ok members
  admitted_all =
      let S : List Bool = take all_marks members in
      let same : S ≡ members = take_all all_marks members (omega arith) in
      let none : lowest_mark m.size members ≡ length members = lowest_none (length members) (λ i. leb m.size i && marked members i) (λ i l.
      elim (cases_lt i m.size) [
        | inl k ↦ and_left (leb m.size i) (marked members i) (lt-leb m.size i k)
        | inr k ↦ and_right (leb m.size i) (marked members i) (a.admitted.above i k)
      ]) in
      cond-false (ltb (length members) all_marks || ltb (length marks) all_marks) _ _
      (or_from _ _ (le-ltb (length members) all_marks (omega arith)) (le-ltb (length marks) all_marks (omega arith)))
      ∙ cond-false (leb m.size e) _ _ (lt-leb m.size e a.admitted.below)
      ∙ ap (apart m.size e) same
      ∙ cond-false (ltb (lowest_mark m.size members) (length members)) _ _ (le-ltb (lowest_mark m.size members) (length members) (omega arith))
      ∙ cond-false (marked members e) _ _ a.admitted.outside

  -- the reply to it
  pub questioned_closing : questioned m members e marks ≡ closing m (marked members) e marks
  questioned_closing = ap (replied m e marks) admitted_all ∙ cond-true (m.independent (marked members)) _ _ a.independent

  joins : m.independent (with (marked members) e) ≡ true → questioned m members e marks ≡ record { answer = Ok Independent; marks = marks }
  joins t = questioned_closing ∙ cond-true (m.independent (with (marked members) e)) _ _ t

  closes : m.independent (with (marked members) e) ≡ false
      → questioned m members e marks ≡ record { answer = Ok Circuit; marks = shown (circuit m (marked members) e) marks }
  closes t = questioned_closing ∙ cond-false (m.independent (with (marked members) e)) _ _ t

  -- there is an answer
  pub asked_answers : (f : Refusal) → Err f ≡ (questioned m members e marks).answer → ⊥
  asked_answers f h = elim (cases_Bool (m.independent (with (marked members) e))) [
    | inl t ↦ let k = h ∙ ap (λ (r : Reply). r.answer) (joins t) in let z : ◌≡◌ {A = ℕ} 0 1 = cc in omega arith
    | inr t ↦ let k = h ∙ ap (λ (r : Reply). r.answer) (closes t) in let z : ◌≡◌ {A = ℕ} 0 1 = cc in omega arith
  ]

  pub asked_independent : Ok Independent ≡ (questioned m members e marks).answer → m.independent (with (marked members) e) ≡ true
  asked_independent h = elim (cases_Bool (m.independent (with (marked members) e))) [
    | inl t ↦ t
    | inr t ↦ let k = h ∙ ap (λ (r : Reply). r.answer) (closes t) in let z : ◌≡◌ {A = ℕ} 0 1 = cc in absurd (omega arith)
  ]

  -- the circuit has no element beyond the marks
  circuit_within : e < all_marks → (i : ℕ) → all_marks ≤ i → circuit m (marked members) e i ≡ false
  circuit_within l i k = and_left (with (marked members) e i) _
      (or_from (eqb i e) (marked members i) (ne_eqb i e (λ z. omega arith)) (get_or-eq_default members false (omega arith)))

  pub asked_circuit : e < all_marks → Ok Circuit ≡ (questioned m members e marks).answer → (after : List Bool) → after ≡ (questioned m members e marks).marks
      → (m.independent (with (marked members) e) ≡ false) × ((i : ℕ) → marked after i ≡ circuit m (marked members) e i)
  asked_circuit l h after s = elim (cases_Bool (m.independent (with (marked members) e))) [
    | inl t ↦ let k = h ∙ ap (λ (r : Reply). r.answer) (joins t) in let z : ◌≡◌ {A = ℕ} 0 1 = cc in absurd (omega arith)
    | inr t ↦
        let C : ℕ → Bool = circuit m (marked members) e in
        let long = length_shown 0 C marks in
        let same : after ≡ shown C marks = s ∙ ap (λ (r : Reply). r.marks) (closes t) in (
          t,
          λ i. ap (λ (x : List Bool). marked x i) same ∙ elim (cases_lt i all_marks) [
            | inl k ↦ shown_here C marks i false (omega arith) k
            | inr k ↦ get_or-eq_default (shown C marks) false (omega arith) ∙ sym (circuit_within l i k)
          ],
        )
  ]
