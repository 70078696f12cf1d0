-- A run does not stop at a price, and with a stocked source it ends at a base.
use Rattle.std.proofs.Common.{◌≡◌, ℕ, suc, ◌<◌, true, false, ◌⊎◌, List, Some, None, Option, sym, refl, ap, ◌∙◌, subst, inl, inr, arith}
use Rattle.std.proofs.lemmas.Bool.{both_ways, cond_both}
use Rattle.matroid.specs.Sets.{Elements}
use Rattle.matroid.specs.Matroids.{Meaning, Laws}
use Rattle.element.specs.declared.Line.{Line}
use Rattle.source.specs.Supplies.{Verdict, verdict}
use Rattle.promise.specs.Walks.{Ended, settled, open_at, walk, topmost}
use Rattle.promise.specs.Surveys.{Source, State, after_price, ask, next, due, Outcome, tried, rested, step, run}
use Rattle.promise.specs.Runs.{Stocked, Done}
use Rattle.promise.proofs.Walking.{Open, Walked, walked}
use Rattle.promise.proofs.Fitting.{open_unknown}
use Rattle.promise.proofs.Rivals.{pair_found}
use Rattle.promise.proofs.Ledgers.{due_parts}
use Rattle.promise.proofs.Supplies.{unlimited_gives, charged_unlimited}
use Rattle.promise.proofs.Stepping.{readied, planned, acted, steps_last, step_source}
use Rattle.promise.proofs.Calls.{Holds, step_holds}
use Rattle.promise.proofs.Endings.{Pays, run_unpaid}
use Rattle.promise.proofs.Reports.{shown, settled_base}
use Rattle.entry.specs.Entries.{Entry, known, inside}

module _ (m : Meaning) (laws : Laws m) (F : ℕ → Entry) (N : List Line) where
  -- the survey is settled, or its next price call is for an element with a range
  asks : (R : Outcome → Type 0) (k : ℕ) (s : State) (σ : Source) → Holds m F N k s
      → ((K : Elements) → walk m s.entries ≡ settled K → R (rested s σ))
      → ((e : ℕ) (q : Option ℕ) → e < m.size → known (s.entries e) ≡ false → R (tried s σ e q (verdict σ.supply e))) → R (step m s σ)
  asks R k s σ h rests tries = by_walk (walk m s.entries) refl (walked m laws s.entries)
    where
      by_due : (C : Elements) → Open m s.entries C → (o : Option ℕ) → due s ≡ o → R (acted s σ (readied m s C o))
      by_due C o (Some e) d = let r = due_parts s.pending s.entries e d in tries e None (h.counted.in_range e r.0) r.1
      by_due C o None d =
          let f : ℕ = topmost m.size s.entries C in
          let pr = pair_found m laws s.entries C o h.tied.proper in
          tries f _ pr.f_below (open_unknown (s.entries f) pr.wide)

      by_walk : (z : Ended) → walk m s.entries ≡ z → Walked m s.entries z → R (acted s σ (planned m s z))
      by_walk (settled K) q w = rests K q
      by_walk (open_at C) q o = by_due C o (due s) refl

  -- what is asked for is an element
  pub asked_below : (k : ℕ) (s : State) → Holds m F N k s → (e : ℕ) (q : Option ℕ) → next m s ≡ ask e q → e < m.size
  asked_below k s h e q r = by_walk (walk m s.entries) (walked m laws s.entries) r
    where
      by_due : (C : Elements) → Open m s.entries C → (o : Option ℕ) → due s ≡ o → readied m s C o ≡ ask e q → e < m.size
      by_due C o (Some d) t x =
          let y : d ≡ e = cc in
          subst (λ (i : ℕ). i < m.size) y (h.counted.in_range d (due_parts s.pending s.entries d t).0)
      by_due C o None t x =
          let f : ℕ = topmost m.size s.entries C in
          let y : f ≡ e = cc in
          subst (λ (i : ℕ). i < m.size) y (pair_found m laws s.entries C o h.tied.proper).f_below

      by_walk : (z : Ended) → Walked m s.entries z → planned m s z ≡ ask e q → e < m.size
      by_walk (settled K) w x = let z : ◌≡◌ {A = ℕ} 0 1 = cc in absurd (omega arith)
      by_walk (open_at C) o x = by_due C o (due s) refl x

  -- a step with a stocked source is done or pays
  step_on : (k : ℕ) (s : State) (σ : Source) → Holds m F N k s → Stocked m F σ → Done m (step m s σ) ⊎ Pays (step m s σ)
  step_on k s σ h g = asks (λ o. Done m o ⊎ Pays o) k s σ h
      (λ K q. inl (refl, (K, ap shown q, settled_base m laws s.entries K (subst (λ (z : Ended). Walked m s.entries z) q (walked m laws s.entries)))))
      (λ e q l u.
      let same = h.tied.refined e u in
      let x = g.has e l (ap known same ∙ u) in
      let p : ℕ = x.0 in
      inr (subst (λ (v : Verdict). Pays (tried s σ e q v)) (sym (unlimited_gives σ.supply e p g.unlimited x.1))
      (cond_both (inside (s.entries e) p) _ _ Pays (λ t. (e, p, refl))
      (λ t. absurd (both_ways (inside (s.entries e) p) t (subst (λ (y : Entry). inside y p ≡ true) same x.2))))))

  stocked_price : (σ : Source) (e : ℕ) → Stocked m F σ → Stocked m F (after_price σ e)
  stocked_price σ e g = record { unlimited = charged_unlimited σ.supply (σ.keeps e) e g.unlimited; has = g.has }

  pub run_done : (k : ℕ) (s : State) (σ : Source) → Holds m F N k s → Stocked m F σ → Done m (run m s σ)
  run_done k s σ h g =
      let r = steps_last m (Stocked m F) (step_source m (Stocked m F) stocked_price) (Holds m F N) (λ j t τ q i. step_holds m laws F N j t i τ) (suc m.size) k s σ g h in
      elim (step_on r.before r.state r.source r.held r.kind) [
        | inl d ↦ subst (Done m) r.is d
        | inr (e, p, q) ↦ absurd (run_unpaid m laws s h.tied.proper σ e p (sym (ap (λ (o : Outcome). o.answer) r.is) ∙ q))
      ]
