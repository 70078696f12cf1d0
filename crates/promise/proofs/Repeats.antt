-- Surveys with the same prices and no notes go the same way.
use Rattle.std.proofs.Common.{◌≡◌, ℕ, zero, suc, ◌+◌, ◌<◌, Bool, true, false, cond, ◌⊎◌, List, [], ◌∷◌, ◌++◌, Some, None, Option, sym, refl, ap, ◌∙◌, subst, inl, inr, arith}
use Rattle.std.proofs.lemmas.List.{append-nil, append_assoc}
use Rattle.std.proofs.lemmas.Bool.{cond_both, cond-true, cond-false}
use Rattle.element.specs.declared.Line.{Line}
use Rattle.matroid.specs.Sets.{Elements, nothing}
use Rattle.matroid.specs.Matroids.{Meaning, Laws}
use Rattle.promise.specs.Weighings.{Each}
use Rattle.source.specs.Supplies.{Verdict, refused, given, verdict, plain}
use Rattle.promise.specs.Walks.{Ended, settled, open_at, walk}
use Rattle.promise.specs.Surveys.{Source, State, fresh, line, Plan, rest, ask, next, Outcome, tried, step, notable, note, report, priced}
use Rattle.promise.specs.Calls.{Call, step_with, run_with, note_of, report_into, did, after, noted, notes, step_firsts, call_firsts}
use Rattle.promise.specs.Claims.{Prices, Priced, Begins, Repeatable}
use Rattle.promise.proofs.Supplies.{given_price, unlimited_gives}
use Rattle.promise.proofs.Stepping.{planned, acted, tried_keeps, steps_keep, step_source}
use Rattle.promise.proofs.Calls.{Holds, holds_start, step_holds, did_holds}
use Rattle.promise.proofs.Runs.{asked_below}
use Rattle.promise.proofs.Reports.{shown}
use Rattle.entry.specs.Entries.{Entry, inside, Proper}

-- a source with the prices P and no limit
abbrev unlimited : (ℕ → Option ℕ) → Source
unlimited P = record { supply = plain P; keeps = nothing }

begins_on : (xs ys zs : List Line) → Begins xs ys → Begins ys zs → Begins xs zs
begins_on xs ys zs a b = (a.0 ++ b.0, sym (append_assoc xs a.0 b.0) ∙ ap (λ (l : List Line). l ++ b.0) a.1 ∙ b.1)

nil_parts : (xs ys : List Line) → xs ++ ys ≡ [] → (xs ≡ []) × (ys ≡ [])
nil_parts [] ys h = (refl, h)
nil_parts (x ∷ xs) ys h = let z : ◌≡◌ {A = ℕ} 0 1 = cc in absurd (omega arith)

module _ (m : Meaning) (P : ℕ → Option ℕ) where
  advance : State → State
  advance s = (step m s (unlimited P)).survey

  -- a step with these prices stays or advances
  acted_ways : (s : State) (σ : Source) → Prices m.size P σ → (x : Plan) → ((e : ℕ) (q : Option ℕ) → x ≡ ask e q → e < m.size)
      → ((acted s σ x).survey ≡ s) ⊎ ((acted s σ x).survey ≡ (acted s (unlimited P) x).survey)
  acted_ways s σ h (rest K) l = inl refl
  acted_ways s σ h (ask e q) l = by_verdict (verdict σ.supply e) refl
    where
      alike : (τ υ : Source) (p : ℕ) → (tried s τ e q (given p)).survey ≡ (tried s υ e q (given p)).survey
      alike τ υ p =
          cond_both (inside (s.entries e) p) _ _ (λ (o : Outcome). o.survey ≡ (tried s υ e q (given p)).survey)
          (λ t. sym (ap (λ (o : Outcome). o.survey) (cond-true {A = Outcome} (inside (s.entries e) p) _ _ t)))
          (λ t. sym (ap (λ (o : Outcome). o.survey) (cond-false {A = Outcome} (inside (s.entries e) p) _ _ t)))

      by_verdict : (v : Verdict) → verdict σ.supply e ≡ v
          → ((tried s σ e q v).survey ≡ s) ⊎ ((tried s σ e q v).survey ≡ (tried s (unlimited P) e q (verdict (unlimited P).supply e)).survey)
      by_verdict (refused c) k = inl refl
      by_verdict (given p) k =
          let price : P e ≡ Some p = sym (h e (l e q refl)) ∙ given_price σ.supply e p k in
          inr (alike σ (unlimited P) p ∙ ap (λ (v : Verdict). (tried s (unlimited P) e q v).survey) (sym (unlimited_gives (unlimited P).supply e p refl price)))

  step_ways : (s : State) (σ : Source) → Prices m.size P σ → ((e : ℕ) (q : Option ℕ) → next m s ≡ ask e q → e < m.size)
      → ((step m s σ).survey ≡ s) ⊎ ((step m s σ).survey ≡ advance s)
  unfolding advance
  step_ways s σ h l = acted_ways s σ h (next m s) l

  chain : ℕ → State → State
  chain zero s = s
  chain (suc k) s = chain k (advance s)

  chain_more : (k : ℕ) (s : State) → advance (chain k s) ≡ chain (suc k) s
  unfolding chain
  chain_more zero s = refl
  chain_more (suc k) s = chain_more k (advance s)

  -- t comes up as s goes on
  Leads : State → State → Type 0
  Leads s t = (k : ℕ) × (chain k s ≡ t)

  leads_step : (s t : State) (σ : Source) → Prices m.size P σ → ((e : ℕ) (q : Option ℕ) → next m t ≡ ask e q → e < m.size)
      → Leads s t → Leads s (step m t σ).survey
  unfolding Leads
  leads_step s t σ h b l = elim (step_ways t σ h b) [
    | inl q ↦ (l.0, l.1 ∙ sym q)
    | inr q ↦ (suc l.0, sym (chain_more l.0 s) ∙ ap advance l.1 ∙ sym q)
  ]

  leads_note : (s t : State) (e p : ℕ) → noted m t (note_of e p) ≡ [] → Leads s t → Leads s (note m t e p)
  leads_note s t e p h l = by_test (notable m t e p) h
    where
      by_test : (b : Bool) → cond b (line e p ∷ []) [] ≡ []
          → Leads s (cond b (record { entries = priced t.entries e p; ledger = t.ledger; pending = t.pending }) t)
      by_test true k = let z : ◌≡◌ {A = ℕ} 0 1 = cc in absurd (omega arith)
      by_test false k = l

  module _ (laws : Laws m) (F : ℕ → Entry) where
    -- t comes up as s goes on, and is the survey of the sheet F after the notes N
    record Reached (N : List Line) (s : State) (k : ℕ) (t : State) : Type 0 where
      leads : Leads s t
      holds : Holds m F N k t

    reached_step : (N : List Line) (s : State) (k : ℕ) (t : State) (σ : Source) → Prices m.size P σ → Reached N s k t
        → Reached N s (k + step_firsts m t σ) (step m t σ).survey
    reached_step N s k t σ h r = record {
      leads = leads_step s t σ h (asked_below m laws F N k t r.holds) r.leads;
      holds = step_holds m laws F N k t r.holds σ;
    }

    leads_did : (N : List Line) (s : State) (k : ℕ) (t : State) (c : Call) → Priced m.size P c → noted m t c ≡ [] → Reached N s k t → Leads s (did m t c)
    leads_did N s k t (step_with σ) h n r = (reached_step N s k t σ h r).leads
    leads_did N s k t (run_with σ) h n r =
        (steps_keep m (Prices m.size P) (step_source m (Prices m.size P) (λ τ e q. q)) (Reached N s) (λ j u τ q i. reached_step N s j u τ q i) (suc m.size) k t σ h r).leads
    leads_did N s k t (note_of e p) h n r = leads_note s t e p n r.leads
    leads_did N s k t (report_into marks) h n r = r.leads

    leads_after : (s : State) (cs : List Call) (N : List Line) (k : ℕ) (t : State) → Each (Priced m.size P) cs → notes m t cs ≡ [] → Reached N s k t → Leads s (after m t cs)
    leads_after s [] N k t h n r = r.leads
    leads_after s (c ∷ cs) N k t h n r =
        let p = nil_parts (noted m t c) (notes m (did m t c) cs) n in
        leads_after s cs (N ++ noted m t c) (k + call_firsts m t c) (did m t c) h.1 p.1 (record {
          leads = leads_did N s k t c h.0 p.0 r;
          holds = did_holds m laws F N k t c r.holds;
        })

  -- of two states on one way, one leads to the other
  ahead : (j k : ℕ) (s : State) → Leads (chain j s) (chain k s) ⊎ Leads (chain k s) (chain j s)
  unfolding Leads chain
  ahead zero k s = inl (k, refl)
  ahead (suc j) zero s = inr (suc j, refl)
  ahead (suc j) (suc k) s = ahead j k (advance s)

  leads_either : (s t u : State) → Leads s t → Leads s u → Leads t u ⊎ Leads u t
  unfolding Leads
  leads_either s t u a b =
      subst (λ (x : State). Leads x u ⊎ Leads u x) a.1 (subst (λ (y : State). Leads (chain a.0 s) y ⊎ Leads y (chain a.0 s)) b.1 (ahead a.0 b.0 s))

  acted_begins : (s : State) (σ : Source) (x : Plan) → Begins s.ledger (acted s σ x).survey.ledger
  acted_begins s σ (rest K) = ([], append-nil s.ledger)
  acted_begins s σ (ask e q) =
      tried_keeps (λ k t. Begins s.ledger t.ledger) 0 None s σ e q ([], append-nil s.ledger) (λ p k. (line e p ∷ [], refl)) (verdict σ.supply e)

  chain_begins : (k : ℕ) (s : State) → Begins s.ledger (chain k s).ledger
  unfolding chain advance
  chain_begins zero s = ([], append-nil s.ledger)
  chain_begins (suc k) s =
      begins_on s.ledger (advance s).ledger (chain k (advance s)).ledger (acted_begins s (unlimited P) (next m s)) (chain_begins k (advance s))

  leads_begins : (s t : State) → Leads s t → Begins s.ledger t.ledger
  unfolding Leads
  leads_begins s t l = subst (λ (x : State). Begins s.ledger x.ledger) l.1 (chain_begins l.0 s)

  -- a settled survey stays as it is
  shown_stays : (s : State) (σ : Source) (A : Elements) (z : Ended) → shown z ≡ Some A → (acted s σ (planned m s z)).survey ≡ s
  shown_stays s σ A (settled K) h = refl
  shown_stays s σ A (open_at C) h = let z : ◌≡◌ {A = ℕ} 0 1 = cc in absurd (omega arith)

  chain_stays : (k : ℕ) (s : State) → advance s ≡ s → chain k s ≡ s
  unfolding chain
  chain_stays zero s h = refl
  chain_stays (suc k) s h = ap (chain k) h ∙ chain_stays k s h

  leads_stays : (s t : State) (A : Elements) → Leads s t → report m s ≡ Some A → s ≡ t
  unfolding Leads advance
  leads_stays s t A l h = sym (chain_stays l.0 s (shown_stays s (unlimited P) A (walk m s.entries) h)) ∙ l.1

  same_ends : (s t : State) (A B : Elements) → s ≡ t → report m s ≡ Some A → report m t ≡ Some B → (s.ledger ≡ t.ledger) × (A ≡ B)
  same_ends s t A B q a b =
      let r : report m s ≡ report m t = ap (report m) q in
      (ap (λ (x : State). x.ledger) q, cc)

  pub repeatable : Laws m → (E : ℕ → Entry) → ((i : ℕ) → Proper (E i)) → (cs ds : List Call) → Each (Priced m.size P) cs → Each (Priced m.size P) ds
      → notes m (fresh E) cs ≡ [] → notes m (fresh E) ds ≡ [] → Repeatable m E cs ds
  unfolding Leads chain
  repeatable laws E proper cs ds hc hd nc nd =
      let s : State = fresh E in
      let c : State = after m s cs in
      let d : State = after m s ds in
      let here : Reached laws E [] s 0 s = record { leads = (0, refl); holds = holds_start m laws E proper } in
      let way = leads_either s c d (leads_after laws E s cs [] 0 s hc nc here) (leads_after laws E s ds [] 0 s hd nd here) in
      record {
        ledgers = elim way [ inl l ↦ inl (leads_begins c d l) | inr l ↦ inr (leads_begins d c l) ];
        ends = λ A B a b. elim way [
          | inl l ↦ same_ends c d A B (leads_stays c d A l a) a b
          | inr l ↦ same_ends c d A B (sym (leads_stays d c B l b)) a b
        ];
      }
