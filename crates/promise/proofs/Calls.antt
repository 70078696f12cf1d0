-- What holds after any list of calls.
use Rattle.std.proofs.Common.{◌≡◌, ℕ, suc, ◌+◌, Bool, true, false, cond, ltb, List, [], ◌∷◌, ◌++◌, length, Some, None, Option, sym, refl, subst, subst₂, arith}
use Rattle.std.proofs.lemmas.Bool.{and_parts, ltb-true}
use Rattle.std.proofs.lemmas.List.{length_push, append-nil, append_assoc}
use Rattle.matroid.specs.Sets.{Elements}
use Rattle.matroid.specs.Matroids.{Meaning, Laws}
use Rattle.element.specs.declared.Line.{Line}
use Rattle.source.specs.Supplies.{verdict}
use Rattle.promise.specs.Walks.{Ended, settled, open_at, walk, topmost, rival}
use Rattle.promise.specs.Surveys.{Source, State, fresh, priced, line, due, paid_for, step, notable, note}
use Rattle.promise.specs.Calls.{Call, step_with, run_with, note_of, report_into, did, after, noted, notes, told, step_firsts, call_firsts, firsts}
use Rattle.promise.proofs.Walking.{Open, Walked, walked}
use Rattle.promise.proofs.Fitting.{open_unknown}
use Rattle.promise.proofs.Rivals.{Pair, pair_found}
use Rattle.promise.proofs.Needed.{needed}
use Rattle.promise.proofs.Pricing.{Tied, tied_paid, tied_noted}
use Rattle.promise.proofs.Ledgers.{Counted, counted_start, counted_due, counted_noted, counted_pair, due_parts}
use Rattle.promise.proofs.Stepping.{readied, planned, acted, as_before, tried_keeps, steps_keep}
use Rattle.entry.specs.Entries.{Entry, known, inside, Proper}

-- what holds of a survey of the sheet F, after the notes N and k first prices
pub record Holds (m : Meaning) (F : ℕ → Entry) (N : List Line) (k : ℕ) (s : State) : Type 0 where
  pub tied : Tied m.size F s.ledger N s.entries
  pub counted : Counted m F (length s.ledger) k s.pending s.entries

module _ (m : Meaning) (laws : Laws m) (F : ℕ → Entry) where
  pub holds_start : ((i : ℕ) → Proper (F i)) → Holds m F [] 0 (fresh F)
  holds_start proper = record {
    tied = record { refined = λ i k. refl; proper = proper; below = (tt, tt); back = λ w f. (f, tt, tt); forth = λ w f a b. f };
    counted = counted_start m F;
  }

  paid_counted : (s : State) (e p k : ℕ) (q : Option ℕ) (E : ℕ → Entry) → Counted m F (length s.ledger + 1) k q E → Counted m F (length (s.ledger ++ (line e p ∷ []))) k q E
  paid_counted s e p k q E c = subst (λ (n : ℕ). Counted m F n k q E) (sym (length_push s.ledger (line e p))) c

  module _ (N : List Line) (k : ℕ) (s : State) (h : Holds m F N k s) where
    holds_due : (e : ℕ) → due s ≡ Some e → (p : ℕ) → inside (s.entries e) p ≡ true → Holds m F N (k + 0) (paid_for s e p None)
    holds_due e d p i = as_before (Holds m F N) k (paid_for s e p None) (record {
      tied = tied_paid m.size F s.ledger N s.entries h.tied e p (h.counted.in_range e (due_parts s.pending s.entries e d).0) i;
      counted = paid_counted s e p k None (priced s.entries e p) (counted_due m F (length s.ledger) k s.pending s.entries e p h.counted d i);
    })

    holds_pair : due s ≡ None → (C : Elements) → Open m s.entries C → (f g : ℕ) → Pair m.size s.entries C f g
        → (p : ℕ) → inside (s.entries f) p ≡ true → Holds m F N (k + 1) (paid_for s f p (cond (known (s.entries g)) None (Some g)))
    holds_pair d C o f g pr p i =
        let E : ℕ → Entry = s.entries in
        let q : Option ℕ = cond (known (E g)) None (Some g) in
        let e : suc k ≡ k + 1 = omega arith in
        subst (λ (j : ℕ). Holds m F N j (paid_for s f p q)) e (record {
          tied = tied_paid m.size F s.ledger N E h.tied f p pr.f_below i;
          counted = paid_counted s f p (suc k) q (priced E f p)
              (counted_pair m F (length s.ledger) k s.pending E h.counted d f g p pr.f_below pr.g_below pr.apart (open_unknown (E f) pr.wide) i
              (λ w fw R B st. needed m laws F E h.tied.refined w (h.tied.back w fw).0 fw R B st C o f g pr));
        })

    pub step_holds : (σ : Source) → Holds m F N (k + step_firsts m s σ) (step m s σ).survey
    step_holds σ = by_walk (walk m s.entries) (walked m laws s.entries)
      where
        by_due : (C : Elements) → Open m s.entries C → (o : Option ℕ) → due s ≡ o
            → Holds m F N (k + told o (acted s σ (readied m s C o)).answer) (acted s σ (readied m s C o)).survey
        by_due C o (Some e) d = tried_keeps (Holds m F N) k (Some e) s σ e None h (holds_due e d) (verdict σ.supply e)
        by_due C o None d =
            let f : ℕ = topmost m.size s.entries C in
            let g : ℕ = rival m.size s.entries C f in
            tried_keeps (Holds m F N) k None s σ f (cond (known (s.entries g)) None (Some g)) h
            (holds_pair d C o f g (pair_found m laws s.entries C o h.tied.proper)) (verdict σ.supply f)

        by_walk : (z : Ended) → Walked m s.entries z
            → Holds m F N (k + told (due s) (acted s σ (planned m s z)).answer) (acted s σ (planned m s z)).survey
        by_walk (settled K) w = as_before (Holds m F N) k s h
        by_walk (open_at C) o = by_due C o (due s) refl

    note_holds : (e p : ℕ) → Holds m F (N ++ noted m s (note_of e p)) k (note m s e p)
    note_holds e p = by_test (notable m s e p) refl
      where
        by_test : (b : Bool) → notable m s e p ≡ b
            → Holds m F (N ++ cond b (line e p ∷ []) []) k (cond b (record { entries = priced s.entries e p; ledger = s.ledger; pending = s.pending }) s)
        by_test true t =
            let q = and_parts (ltb e m.size) (inside (s.entries e) p) t in
            let l = ltb-true e m.size q.0 in
            record {
              tied = tied_noted m.size F s.ledger N s.entries h.tied e p l q.1;
              counted = counted_noted m F (length s.ledger) k s.pending s.entries e p h.counted l q.1;
            }
        by_test false t = subst (λ (M : List Line). Holds m F M k s) (sym (append-nil N)) h

  no_notes : (N : List Line) (k : ℕ) (s : State) → Holds m F N k s → Holds m F (N ++ []) k s
  no_notes N k s h = subst (λ (M : List Line). Holds m F M k s) (sym (append-nil N)) h

  pub did_holds : (N : List Line) (k : ℕ) (s : State) (c : Call) → Holds m F N k s → Holds m F (N ++ noted m s c) (k + call_firsts m s c) (did m s c)
  did_holds N k s (step_with σ) h = no_notes N _ _ (step_holds N k s h σ)
  did_holds N k s (run_with σ) h =
      no_notes N _ _ (steps_keep m (λ τ. Unit {0}) (λ t τ q. tt) (Holds m F N) (λ j t τ q i. step_holds N j t i τ) (suc m.size) k s σ tt h)
  did_holds N k s (note_of e p) h = as_before (Holds m F (N ++ noted m s (note_of e p))) k (note m s e p) (note_holds N k s h e p)
  did_holds N k s (report_into marks) h = no_notes N _ _ (as_before (Holds m F N) k s h)

  pub after_holds : (cs : List Call) (N : List Line) (k : ℕ) (s : State) → Holds m F N k s → Holds m F (N ++ notes m s cs) (k + firsts m s cs) (after m s cs)
  after_holds [] N k s h = no_notes N _ _ (as_before (Holds m F N) k s h)
  after_holds (c ∷ cs) N k s h =
      let a : (k + call_firsts m s c) + firsts m (did m s c) cs ≡ k + (call_firsts m s c + firsts m (did m s c) cs) = omega arith in
      subst₂ (λ (M : List Line) (j : ℕ). Holds m F M j (after m (did m s c) cs)) (append_assoc N (noted m s c) (notes m (did m s c) cs)) a
      (after_holds cs (N ++ noted m s c) (k + call_firsts m s c) (did m s c) (did_holds N k s c h))
