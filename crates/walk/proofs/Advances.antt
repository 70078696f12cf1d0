-- A walk, turn by turn.
use Rattle.std.proofs.Common.{◌≡◌, ℕ, suc, ◌-◌, ◌<◌, ◌≤◌, Bool, true, false, List, length, set, Some, None, Option, sym, refl, ap, ◌∙◌, subst, inl, inr, arith}
use mathlib.Core.Path.{fun_ext}
use Rattle.std.proofs.lemmas.Bool.{both_ways, cond-false, cases_lt}
use Rattle.element.specs.Marks.{all_marks}
use Rattle.entry.specs.Entries.{Entry}
use Rattle.matroid.specs.Sets.{Elements, with, count}
use Rattle.matroid.specs.Matroids.{Meaning, Laws}
use Rattle.matroid.specs.Circuits.{circuit}
use Rattle.matroid.specs.Questions.{marked}
use Rattle.matroid.proofs.Members.{none_false, none_true, lowest_cases}
use Rattle.matroid.proofs.Counts.{count_with, count_all, gap}
use Rattle.matroid.proofs.Marks.{marked_set}
use Rattle.promise.specs.Walks.{Ended, earliest, leads, topped, walk, open_at}
use Rattle.promise.proofs.Orders.{earliest_found}
use Rattle.walk.specs.Stages.{Next, Reached, keeps, drops, Stops, settles, opens}
use Rattle.walk.specs.Walked.{Askable, found}
use Rattle.walk.proofs.Searches.{found_at, found_no}
use Rattle.walk.proofs.Stages.{leads_untaken, leads_earliest, stage_independent, stage_below, stage_part, stage_as, stage_onward}

-- the walk comes to the end at which a stage of it stops
pub stop_ends : (m : Meaning) (E : ℕ → Entry) (T K : Elements) (w : Ended) → Reached m E T K → Stops m E T K w → w ≡ walk m E
stop_ends m E T K w r (settles all) =
    let a = count_all m.size T in
    let full : m.size ≤ count m.size T = elim (cases_lt (count m.size T) m.size) [
      | inl l ↦ let x = gap m.size T l in absurd (both_ways (T x.0) x.2 (all x.0 x.1))
      | inr l ↦ l
    ] in
    stage_onward m E T K r 0 (omega arith)
stop_ends m E T K w r (opens e x h z) =
    let f : ℕ = earliest m.size E T in
    let q : e ≡ f = sym (leads_earliest m.size E T e x.below x.leading) in
    let a = count_with m.size T e x.below (leads_untaken m.size E T e x.leading) in
    let b = count_all m.size (with T e) in
    let k : ℕ = m.size - suc (count m.size T) in
    ap (λ (i : ℕ). open_at (circuit m K i)) q
    ∙ sym (cond-false (m.independent (with K f)) _ _ (subst (λ (i : ℕ). m.independent (with K i) ≡ false) q h)
    ∙ cond-false (topped m.size E (circuit m K f) f) _ _ (subst (λ (i : ℕ). topped m.size E (circuit m K i) i ≡ false) q z))
    ∙ stage_onward m E T K r (suc k) (omega arith)

-- what a turn at e makes of the marks
pub record Turn (m : Meaning) (E : ℕ → Entry) (n : ℕ) (taken kept : List Bool) (e : ℕ) : Type 0 where
  pub askable : Askable m (marked kept) e
  pub keeps : m.independent (with (marked kept) e) ≡ true → Reached m E (marked (set taken e true)) (marked (set kept e true))
  pub drops : (marks : List Bool) → m.independent (with (marked kept) e) ≡ false → marked marks ≡ circuit m (marked kept) e
      → true ≡ topped n E (marked marks) e → Reached m E (marked (set taken e true)) (marked kept)
  pub opens : (marks : List Bool) → m.independent (with (marked kept) e) ≡ false → marked marks ≡ circuit m (marked kept) e
      → false ≡ topped n E (marked marks) e → Stops m E (marked taken) (marked kept) (open_at (marked marks))

-- n is the size as the code has it, and o the element that it takes next
module _ (m : Meaning) (E : ℕ → Entry) (n : ℕ) (size : n ≡ m.size) (room : n ≤ all_marks) (taken : List Bool) (taken-room : length taken ≡ all_marks)
    (o : Option ℕ) (next : o ≡ found n (earliest n E (marked taken))) where
  here : o ≡ found m.size (earliest m.size E (marked taken))
  here = subst (λ (k : ℕ). o ≡ found k (earliest k E (marked taken))) size next

  -- no element is left
  pub turn_none : o ≡ None → (i : ℕ) → i < m.size → marked taken i ≡ true
  turn_none none i l = none_true (marked taken i) (λ u.
      let a = earliest_found E m.size (marked taken) i l u in
      let b = a.0 in
      let c = found_no m.size _ (sym none ∙ here) in
      omega arith)

  module _ (e : ℕ) (some : o ≡ Some e) where
    pub turn_next : Next m E (marked taken) e
    turn_next =
        let f = found_at m.size _ e (sym some ∙ here) in
        elim (lowest_cases m.size (leads m.size E (marked taken))) [
          | inl h ↦ record { below = f.0; leading = subst (λ (x : ℕ). leads m.size E (marked taken) x ≡ true) (sym f.1) h.1 }
          | inr h ↦ let a = f.0 in let b = f.1 in let d = h.0 in absurd (omega arith)
        ]

    untaken : marked taken e ≡ false
    untaken = leads_untaken m.size E (marked taken) e turn_next.leading

    with_e : (marks : List Bool) → length marks ≡ all_marks → with (marked marks) e ≡ marked (set marks e true)
    with_e marks h = fun_ext (λ i. sym (marked_set marks e (let b = turn_next.below in omega arith) i))

    -- one more is taken
    pub turn_fewer : m.size - count m.size (marked (set taken e true)) < m.size - count m.size (marked taken)
    turn_fewer =
        let b = turn_next.below in
        let a = count_with m.size (marked taken) e turn_next.below untaken in
        let z = count_all m.size (with (marked taken) e) in
        let same : count m.size (marked (set taken e true)) ≡ count m.size (with (marked taken) e) = ap (count m.size) (sym (with_e taken taken-room)) in
        omega arith

    module _ (laws : Laws m) (kept : List Bool) (kept-room : length kept ≡ all_marks) (r : Reached m E (marked taken) (marked kept)) where
      tops : (v : Bool) (marks : List Bool) → marked marks ≡ circuit m (marked kept) e → v ≡ topped n E (marked marks) e → topped m.size E (circuit m (marked kept) e) e ≡ v
      tops v marks s z = subst (λ (S : Elements). topped m.size E S e ≡ v) s (subst (λ (x : ℕ). topped x E (marked marks) e ≡ v) size (sym z))

      pub turn : Turn m E n taken kept e
      turn = record {
        askable = record {
          independent = stage_independent m E laws (marked taken) (marked kept) r;
          below = turn_next.below;
          outside = none_false (marked kept e) (λ h. both_ways (marked taken e) untaken (stage_part m E (marked taken) (marked kept) r e h));
          above = λ i h. none_false (marked kept i) (λ p. let w = stage_below m E (marked taken) (marked kept) r i (stage_part m E (marked taken) (marked kept) r i p) in omega arith);
        };
        keeps = λ h. stage_as m E _ _ _ _ (sym (with_e taken taken-room)) (sym (with_e kept kept-room)) (keeps (marked taken) (marked kept) e r turn_next h);
        drops = λ marks h s z. stage_as m E _ _ _ _ (sym (with_e taken taken-room)) refl (drops (marked taken) (marked kept) e r turn_next h (tops true marks s z));
        opens = λ marks h s z. subst (λ (S : Elements). Stops m E (marked taken) (marked kept) (open_at S)) (sym s) (opens e turn_next h (tops false marks s z));
      }
