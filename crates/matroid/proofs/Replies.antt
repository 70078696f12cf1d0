-- What a question that is not refused is about, and the reply to it.
use Rattle.std.proofs.Common.{◌≡◌, ℕ, suc, ◌<◌, ◌≤◌, Bool, true, false, cond, ◌&&◌, ◌||◌, ltb, leb, List, [], ◌∷◌, length, take, Some, None, Ok, Err, Result, sym, refl, ap, ◌∙◌, inl, inr, arith}
use lib.ListN.{get_or-eq_default}
use Rattle.std.proofs.lemmas.Bool.{cases_lt, lt-ltb, le-ltb, le-leb, lt-leb, ltb-false, leb-false, cond-true, cond-false, and_from, or_from}
use Rattle.element.specs.Marks.{all_marks}
use Rattle.fault.specs.Refusals.{Refusal, refused, refusal}
use Rattle.fault.specs.declared.Fault.{Fault}
use Rattle.matroid.specs.declared.Closing.TheVariants.{Independent, Circuit}
use Rattle.matroid.specs.Sets.{Elements, with, without, cut}
use Rattle.matroid.specs.Matroids.{Meaning}
use Rattle.matroid.specs.Circuits.{circuit, IsCircuit}
use Rattle.matroid.specs.Questions.{marked, shown_from, shown, lowest_mark, next_mark, apart, admitted, Reply, declined, closing, replied, questioned}
use Rattle.matroid.specs.Outcomes.{Outcome, OutcomeOf, concluded}
use Rattle.matroid.proofs.Members.{lowest_found, none_false, with_other}

-- the members of a question that is not refused: below n, and without e, which is below n too
pub record Admitted (n : ℕ) (e : ℕ) (members : List Bool) : Type 0 where
  pub below : e < n
  pub outside : marked members e ≡ false
  pub above : (k : ℕ) → n ≤ k → marked members k ≡ false

-- the answer to a question with enough marks, of which the members are the first
module _ (n : ℕ) (set : List Bool) (e : ℕ) (marks members : List Bool) (long : all_marks ≤ length set) (room : all_marks ≤ length marks)
    (same : members ≡ take all_marks set) where
  -- whatever is independent
  pub asked_apart : e < n → admitted n set e marks ≡ apart n e members
  asked_apart l =
      cond-false (ltb (length set) all_marks || ltb (length marks) all_marks) _ _
      (or_from (ltb (length set) all_marks) _ (le-ltb (length set) all_marks long) (le-ltb (length marks) all_marks room))
      ∙ cond-false (leb n e) _ _ (lt-leb n e l) ∙ ap (apart n e) (sym same)

  pub asked_beyond : n ≤ e → Err (refused 8 e 0) ≡ admitted n set e marks
  asked_beyond l =
      sym (cond-false (ltb (length set) all_marks || ltb (length marks) all_marks) _ _
      (or_from (ltb (length set) all_marks) _ (le-ltb (length set) all_marks long) (le-ltb (length marks) all_marks room))
      ∙ cond-true (leb n e) _ _ (le-leb n e l))

  pub asked_stray : e < n → (k s : ℕ) → k ≡ n → Some s ≡ next_mark k members → Err (refused 8 s 0) ≡ admitted n set e marks
  asked_stray l k s q h = let a = asked_apart l in grind arith

  pub asked_member : e < n → (k i : ℕ) → k ≡ n → None ≡ next_mark k members → i ≡ e → marked members i ≡ true → Err (refused 15 e 0) ≡ admitted n set e marks
  asked_member l k i q h z t = let a = asked_apart l in grind arith

  pub asked_members : e < n → (k i : ℕ) → k ≡ n → None ≡ next_mark k members → i ≡ e → marked members i ≡ false → Ok members ≡ admitted n set e marks
  asked_members l k i q h z t = let a = asked_apart l in grind arith

passed : {X : Type 0} (b : Bool) (f : Refusal) (r : Result X Refusal) (x : X) → cond b (Err f) r ≡ Ok x → (b ≡ false) × (r ≡ Ok x)
passed true f r x h = let z : ◌≡◌ {A = ℕ} 0 1 = cc in absurd (omega arith)
passed false f r x h = (refl, h)

pub admits : (n : ℕ) (set : List Bool) (e : ℕ) (marks members : List Bool) → admitted n set e marks ≡ Ok members → Admitted n e members
admits n set e marks members h =
    let S : List Bool = take all_marks set in
    let (_, p) = passed (ltb (length set) all_marks || ltb (length marks) all_marks) _ _ members h in
    let (a, q) = passed (leb n e) _ _ members p in
    let (b, r) = passed (ltb (lowest_mark n S) (length S)) _ _ members q in
    let (c, s) = passed (marked S e) _ (Ok S) members r in
    let same : S ≡ members = cc in
    let f = leb-false n e a in
    let g = ltb-false (lowest_mark n S) (length S) b in
    record {
      below = omega arith;
      outside = ap (λ (x : List Bool). marked x e) (sym same) ∙ c;
      above = λ k l. ap (λ (x : List Bool). marked x k) (sym same) ∙ elim (cases_lt k (length S)) [
        | inl m ↦ none_false (marked S k) (λ t.
            let (u, v) = lowest_found (length S) (λ i. leb n i && marked S i) k m (and_from (leb n k) (marked S k) (le-leb n k l) t) in
            omega arith)
        | inr m ↦ get_or-eq_default S false m
      ];
    }

shown_same : (k : ℕ) (A B : Elements) (xs : List Bool) → ((i : ℕ) → A i ≡ B i) → shown_from k A xs ≡ shown_from k B xs
shown_same k A B [] h = refl
shown_same k A B (x ∷ xs) h =
    ap (λ (y : Bool). cond (ltb k all_marks) y x ∷ shown_from (suc k) A xs) (h k) ∙ ap (λ (ys : List Bool). cond (ltb k all_marks) (B k) x ∷ ys) (shown_same (suc k) A B xs h)

-- the circuit has no element above the size
circuit_below : (m : Meaning) (S : Elements) (e : ℕ) (C : Elements) → e < m.size → ((k : ℕ) → m.size ≤ k → S k ≡ false) → IsCircuit m S e C
    → (k : ℕ) → cut m.size C k ≡ circuit m S e k
circuit_below m S e C l z h k =
    elim (cases_lt k m.size) [
      | inl a ↦ ap (λ (b : Bool). b && C k) (lt-ltb k m.size a) ∙ h k a
      | inr a ↦
          ap (λ (b : Bool). b && C k) (le-ltb k m.size a)
          ∙ ap (λ (b : Bool). b && m.independent (without (with S e) k)) (sym (with_other S e k (λ y. omega arith) ∙ z k a))
    ]

module _ (m : Meaning) (e : ℕ) (marks members : List Bool) (a : Admitted m.size e members) where
  concluded_replied : (o : Outcome) → OutcomeOf m (marked members) e o → concluded m.size o marks ≡ replied m e marks (Ok members)
  concluded_replied (Err f) (q, h) =
      ap (λ (x : Fault). declined (refusal x) marks) q
      ∙ sym (cond-false (m.independent (marked members)) (closing m (marked members) e marks) (declined (refused 16 0 0) marks) h)
  concluded_replied (Ok None) (h, g) =
      sym (cond-true (m.independent (marked members)) (closing m (marked members) e marks) (declined (refused 16 0 0) marks) h
      ∙ cond-true (m.independent (with (marked members) e)) (record { answer = Ok Independent; marks = marks }) (record { answer = Ok Circuit; marks = shown (circuit m (marked members) e) marks }) g)
  concluded_replied (Ok (Some C)) (h, g, k) =
      let R : List Bool → Reply = λ x. record { answer = Ok Circuit; marks = x } in
      ap R (shown_same 0 (cut m.size (marked C)) (circuit m (marked members) e) marks (circuit_below m (marked members) e (marked C) a.below a.above k))
      ∙ sym (cond-true (m.independent (marked members)) (closing m (marked members) e marks) (declined (refused 16 0 0) marks) h
      ∙ cond-false (m.independent (with (marked members) e)) (record { answer = Ok Independent; marks = marks }) (record { answer = Ok Circuit; marks = shown (circuit m (marked members) e) marks }) g)

-- what is concluded from an outcome in m is what m replies; n is its size as the code has it
pub concluded_questioned : (m : Meaning) (n : ℕ) (set : List Bool) (e : ℕ) (marks members : List Bool) (o : Outcome) → n ≡ m.size
    → Ok members ≡ admitted n set e marks → OutcomeOf m (marked members) e o → concluded n o marks ≡ questioned m set e marks
concluded_questioned m n set e marks members o s h g =
    let p : admitted m.size set e marks ≡ Ok members = ap (λ (k : ℕ). admitted k set e marks) (sym s) ∙ sym h in
    ap (λ (k : ℕ). concluded k o marks) s ∙ concluded_replied m e marks members (admits m.size set e marks members p) o g
    ∙ ap (replied m e marks) (sym p)
