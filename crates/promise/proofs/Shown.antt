-- The marks of a report are the base that it shows.
use Rattle.std.proofs.Common.{◌≡◌, ℕ, ◌<◌, ◌≤◌, Bool, false, ◌&&◌, ltb, List, length, Some, None, Option, Result, sym, refl, ap, ◌∙◌, subst, inl, inr, arith}
use Rattle.std.proofs.lemmas.Bool.{cases_lt, cond-true, cond-false, lt-ltb, le-ltb}
use Rattle.element.specs.Marks.{all_marks}
use Rattle.entry.specs.Entries.{Entry}
use Rattle.fault.specs.Refusals.{Refusal}
use Rattle.matroid.specs.Sets.{Elements, cut}
use Rattle.matroid.specs.Matroids.{Meaning, Laws}
use Rattle.matroid.specs.Bases.{Base, Cheapest}
use Rattle.matroid.specs.Questions.{marked, shown}
use Rattle.matroid.proofs.Counts.{sum_same}
use Rattle.matroid.proofs.Marks.{shown_here}
use Rattle.promise.specs.Surveys.{Source, State, fresh, run, report}
use Rattle.promise.specs.Calls.{Call, after, notes, firsts}
use Rattle.promise.specs.Claims.{AlwaysCheapest, Right}
use Rattle.promise.specs.Replies.{Reply, showing, report_reply}
use Rattle.promise.specs.Reports.{among, Reported, Assures}
use Rattle.promise.specs.Runs.{Done, Progresses}
use Rattle.promise.proofs.Reports.{holding, right, few}
use Rattle.promise.proofs.Runs.{run_done}

module _ (m : Meaning) (laws : Laws m) (A B : Elements) (same : (i : ℕ) → i < m.size → B i ≡ A i) where
  base_same : Base m A → Base m B
  base_same b = record {
    independent = laws.part B A (λ i l h. sym (same i l) ∙ h) b.independent;
    largest = λ T p t i l h. same i l ∙ b.largest T (λ j k a. p j k (same j k ∙ a)) t i l h;
  }

  cheapest_same : (v : ℕ → ℕ) → Cheapest m v A → Cheapest m v B
  cheapest_same v c = record {
    base = base_same c.base;
    least = λ D d. let e = sum_same m.size v v B A same (λ i l. refl) in let k = c.least D d in omega arith;
  }

  always_same : (E : ℕ → Entry) (cs : List Call) → AlwaysCheapest m E cs A → AlwaysCheapest m E cs B
  always_same E cs a = (base_same a.0, λ w p. cheapest_same w.value (a.1 w p))

-- the marks that show K, as a set
among_shown : (n : ℕ) (K : Elements) (marks : List Bool) → n ≤ all_marks → all_marks ≤ length marks → (i : ℕ) → i < n → among (shown (cut n K) marks) i ≡ K i
among_shown n K marks small room i l =
    ap (λ b. b && marked (shown (cut n K) marks) i) (lt-ltb i all_marks (omega arith)) ∙
    (shown_here (cut n K) marks i false (omega arith) (omega arith) ∙ ap (λ b. b && K i) (lt-ltb i n l))

module _ (m : Meaning) (laws : Laws m) (E : ℕ → Entry) (cs : List Call) (is_right : Right m E cs) (small : m.size ≤ all_marks) (marks : List Bool) where
  by_report : (o : Option Elements) → report m (after m (fresh E) cs) ≡ o → all_marks ≤ length marks
      → Reported m E cs (showing m.size o marks).answer (showing m.size o marks).marks
  by_report (Some K) r room = record {
    sound = λ h. always_same m laws K (among (shown (cut m.size K) marks)) (among_shown m.size K marks small room) E cs (is_right.sound K r);
    complete = λ B a l. refl;
  }
  by_report None r room = record {
    sound = λ h. let z : ◌≡◌ {A = ℕ} 0 1 = cc in absurd (omega arith);
    complete = λ B a l. let x = is_right.complete B a in let y = sym r ∙ x.1 in let z : ◌≡◌ {A = ℕ} 0 1 = cc in absurd (omega arith);
  }

  -- what a report answers is what is wanted of it
  pub reported : Reported m E cs (report_reply m (after m (fresh E) cs) marks).answer (report_reply m (after m (fresh E) cs) marks).marks
  reported = elim (cases_lt (length marks) all_marks) [
    | inl l ↦ subst (λ (r : Reply). Reported m E cs r.answer r.marks) (sym (cond-true (ltb (length marks) all_marks) _ _ (lt-ltb (length marks) all_marks l))) (record {
      sound = λ h. let z : ◌≡◌ {A = ℕ} 0 1 = cc in absurd (omega arith);
      complete = λ B a k. absurd (omega arith);
    })
    | inr l ↦ subst (λ (r : Reply). Reported m E cs r.answer r.marks) (sym (cond-false (ltb (length marks) all_marks) _ _ (le-ltb (length marks) all_marks l)))
        (by_report (report m (after m (fresh E) cs)) refl l)
  ]

-- a report that answers so assures whoever asked, whatever calls came before it
pub assures : (m : Meaning) → Laws m → m.size ≤ all_marks → (s : State) (marks after-marks : List Bool) (r : Result (Unit {0}) Refusal)
    → r ≡ (report_reply m s marks).answer → after-marks ≡ (report_reply m s marks).marks → Assures m s r after-marks
assures m laws small s marks after-marks r a b E proper cs q = record {
  reported =
      subst (λ (x : Result (Unit {0}) Refusal). Reported m E cs x after-marks) (sym (a ∙ ap (λ (t : State). (report_reply m t marks).answer) q))
      (subst (λ (x : List Bool). Reported m E cs (report_reply m (after m (fresh E) cs) marks).answer x) (sym (b ∙ ap (λ (t : State). (report_reply m t marks).marks) q))
      (reported m laws E cs (right m laws E proper cs) small marks));
  few = few m laws E proper cs;
}

-- runs come to a base, whatever calls came before them
pub progresses : (m : Meaning) → Laws m → (s : State) (σ : Source) → Progresses m s σ
progresses m laws s σ E proper cs q stocked =
    subst (λ (t : State). Done m (run m t σ)) (sym q)
    (run_done m laws E (notes m (fresh E) cs) (firsts m (fresh E) cs) (after m (fresh E) cs) σ (holding m laws E proper cs) stocked)
