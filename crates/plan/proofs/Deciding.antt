-- What a run and a report come to is the plan of the survey. Assumes nothing.
use Rattle.std.proofs.Common.{◌≡◌, ℕ, zero, suc, ◌<◌, ◌≤◌, Bool, false, cond, ◌&&◌, List, [], ◌++◌, length, replicate, Some, None, Ok, Err, Option, Result, sym, refl, ap, ◌∙◌, ⊎_elim, arith}
use mathlib.Core.Path.{fun_ext}
use lib.ListN.{length-replicate}
use Rattle.std.proofs.lemmas.Bool.{cases_lt, lt-ltb, le-ltb}
use Rattle.std.proofs.lemmas.List.{get_or_past}
use Rattle.element.specs.Marks.{all_marks}
use Rattle.entry.specs.Entries.{Entry, high, low}
use Rattle.fault.specs.Refusals.{Refusal}
use Rattle.matroid.specs.Sets.{Elements, cut}
use Rattle.matroid.specs.Matroids.{Meaning}
use Rattle.matroid.specs.Questions.{marked, shown}
use Rattle.matroid.proofs.Counts.{count_same, sum_same}
use Rattle.matroid.proofs.Marks.{length_shown, shown_here}
use Rattle.promise.specs.Surveys.{Source, State, Outcome, fresh, run, report}
use Rattle.promise.specs.Replies.{followed, showing, run_reply, report_reply}
use Rattle.plan.specs.Texts.{each_kept, kept_line, finished_text, decided_text, quota_origin, by_answer, plan_of}

-- marks of which none is set
abbrev pub blank : List Bool
blank = replicate all_marks false

blank_length : length blank ≡ all_marks
blank_length = length-replicate all_marks false

-- such marks show a set below n as it is
marked_shown : (n : ℕ) (K : Elements) → n ≤ all_marks → marked (shown (cut n K) blank) ≡ cut n K
marked_shown n K small = fun_ext (λ i. ⊎_elim
    (λ (l : i < all_marks). shown_here (cut n K) blank i false l (omega (arith, blank_length)))
    (λ (l : all_marks ≤ i).
    get_or_past (shown (cut n K) blank) i false (omega (arith, blank_length, length_shown 0 (cut n K) blank)) ∙ sym (ap (λ b. b && K i) (le-ltb i n (omega arith))))
    (cases_lt i all_marks))

-- what is written of a set goes by its members below n
same_each : (n : ℕ) (A B : Elements) (text : ℕ → List ℕ) → ((i : ℕ) → i < n → A i ≡ B i) → each_kept n A text ≡ each_kept n B text
same_each zero A B text e = refl
same_each (suc n) A B text e =
    ap (λ t. t ++ cond (A n) (text n) []) (same_each n A B text (λ i l. e i (omega arith))) ∙ ap (λ b. each_kept n B text ++ cond b (text n) []) (e n (omega arith))

same_finished : (n : ℕ) (s : State) (named : ℕ → List ℕ) (A B : Elements) → ((i : ℕ) → i < n → A i ≡ B i) → finished_text n s named A ≡ finished_text n s named B
same_finished n s named A B e =
    cc (count_same n A B e, same_each n A B (kept_line s.entries named) e, sum_same n (λ i. low (s.entries i)) (λ i. low (s.entries i)) A B e (λ i l. refl), sum_same n (λ i. high (s.entries i)) (λ i. high (s.entries i)) A B e (λ i l. refl))

module _ (m : Meaning) (small : m.size ≤ all_marks) (named : ℕ → List ℕ) (s : State) where
  by_option : (o : Option Elements) (marks : List Bool) (r : Result (Unit {0}) Refusal) → r ≡ (showing m.size o blank).answer → (r ≡ Ok tt → marks ≡ (showing m.size o blank).marks)
      → decided_text m.size s named r (marked marks) ≡ by_answer m.size s named (Ok tt) o
  by_option None marks r e k = ap (λ (x : Result (Unit {0}) Refusal). decided_text m.size s named x (marked marks)) e
  by_option (Some K) marks r e k = cc (k e, marked_shown m.size K small, same_finished m.size s named (cut m.size K) K (λ i l. ap (λ b. b && K i) (lt-ltb i m.size l)))

  by_run : (rr : Result (Unit {0}) Refusal) (marks : List Bool) (r : Result (Unit {0}) Refusal) → r ≡ (followed rr blank (report_reply m s blank)).answer → marks ≡ (followed rr blank (report_reply m s blank)).marks
      → decided_text m.size s named r (marked marks) ≡ by_answer m.size s named rr (report m s)
  by_run (Err f) marks r e k = ap (λ (x : Result (Unit {0}) Refusal). decided_text m.size s named x (marked marks)) e
  by_run (Ok tt) marks r e k = by_option (report m s) marks r e (λ h. k)

module _ (m m₀ : Meaning) (same : m₀ ≡ m) (E : ℕ → Entry) (s₀ s₁ : State) (σ σ₀ σ₁ : Source) (named : ℕ → List ℕ) (origin : ℕ → ℕ) (n : ℕ) (marks : List Bool) (r : Result (Unit {0}) Refusal) where
  pub planned : s₀ ≡ fresh E → σ₀ ≡ σ → s₁ ≡ (run m₀ s₀ σ₀).survey → σ₁ ≡ (run m₀ s₀ σ₀).source → origin ≡ quota_origin σ₁.supply
      → r ≡ (followed (run_reply σ₀.supply.depth origin (run m₀ s₀ σ₀).answer) blank (report_reply m₀ (run m₀ s₀ σ₀).survey blank)).answer
      → marks ≡ (followed (run_reply σ₀.supply.depth origin (run m₀ s₀ σ₀).answer) blank (report_reply m₀ (run m₀ s₀ σ₀).survey blank)).marks
      → n ≡ m.size → n ≤ all_marks
      → decided_text n s₁ named r (marked marks) ≡ plan_of m E σ named
  planned es eσ e₁ e₂ eo er ek en small =
      let o : Outcome = run m (fresh E) σ in
      let rr : Result (Unit {0}) Refusal = run_reply σ.supply.depth (quota_origin o.source.supply) o.answer in
      ap (λ k. decided_text k s₁ named r (marked marks)) en ∙ (by_run m (omega arith) named s₁ rr marks r (cc) (cc) ∙ cc)
