-- A run does not stop at a price, wherever it starts.
use Rattle.std.proofs.Common.{◌≡◌, ℕ, zero, suc, ◌+◌, ◌<◌, ◌≤◌, false, cond, not, ltb, Some, None, Option, sym, refl, ap, ◌∙◌, subst, inl, inr, arith}
use Rattle.std.proofs.lemmas.Bool.{cases_Bool, cases_eq, cases_lt, cond_both, cond-true, cond-false, not_from_false, not-true, lt-ltb, le-ltb}
use Rattle.matroid.specs.Sets.{Elements, without, count}
use Rattle.matroid.specs.Matroids.{Meaning, Laws}
use Rattle.matroid.proofs.Members.{without_from}
use Rattle.matroid.proofs.Counts.{count_part, count_without, count_all}
use Rattle.entry.specs.Entries.{Entry, known, inside, Proper}
use Rattle.source.specs.Supplies.{Verdict, refused, given, verdict}
use Rattle.promise.specs.Walks.{Ended, settled, open_at, walk, topmost, rival}
use Rattle.promise.specs.Surveys.{Source, State, priced, due, Plan, rest, ask, next, Answer, finished, paid, outside, declined, Outcome, paid_for, tried, step, steps, run}
use Rattle.promise.proofs.Walking.{Open, Walked, walked}
use Rattle.promise.proofs.Fitting.{open_unknown}
use Rattle.promise.proofs.Rivals.{pair_found}
use Rattle.promise.proofs.Pricing.{unknown_was, unknown_other, priced_here, priced_other}
use Rattle.promise.proofs.Ledgers.{due_of, due_parts}
use Rattle.promise.proofs.Stepping.{readied, planned, acted, went}

-- the elements whose entry is a range
abbrev unknown : (ℕ → Entry) → Elements
unknown E i = not (known (E i))

unknown_part : (n : ℕ) (E : ℕ → Entry) (e p : ℕ) → count n (unknown (priced E e p)) ≤ count n (unknown E)
unknown_part n E e p =
    count_part n (unknown (priced E e p)) (unknown E) (λ i l u. not_from_false (known (E i)) (unknown_was E e p i (not-true (known (priced E e p i)) u)))

fewer : (n : ℕ) (E : ℕ → Entry) (e p : ℕ) → e < n → known (E e) ≡ false → count n (unknown (priced E e p)) < count n (unknown E)
fewer n E e p l k =
    let a = count_without n (unknown E) e l (not_from_false (known (E e)) k) in
    let b = count_part n (unknown (priced E e p)) (without (unknown E) e) (λ i li u.
    let z = not-true (known (priced E e p i)) u in
    without_from (unknown E) e i (unknown_other E e p i z) (not_from_false (known (E i)) (unknown_was E e p i z))) in
    omega arith

-- 1 for an element that is due and no element of the matroid
abbrev stray : ℕ → Option ℕ → ℕ
stray n (Some e) = cond (ltb e n) 0 1
stray n None = 0

stray_most : (n : ℕ) (o : Option ℕ) → stray n o ≤ 1
stray_most n (Some e) = cond_both (ltb e n) 0 1 (λ k. k ≤ 1) (λ t. omega arith) (λ t. omega arith)
stray_most n None = omega arith

stray_below : (n e : ℕ) → e < n → stray n (Some e) ≡ 0
stray_below n e l = cond-true {A = ℕ} (ltb e n) 0 1 (lt-ltb e n l)

-- how many prices can be paid at most
abbrev pub payable : ℕ → State → ℕ
payable n s = count n (unknown s.entries) + stray n (due s)

-- the outcome has a price that was paid
abbrev pub Pays : Outcome → Type 0
Pays o = (e : ℕ) × (p : ℕ) × (o.answer ≡ paid e p)

unpaid : (o : Outcome) (x : Answer) → o.answer ≡ x → ((e p : ℕ) → x ≡ paid e p → ⊥) → Pays o → ⊥
unpaid o x r never y = never y.0 y.1 (sym r ∙ y.2)

module _ (m : Meaning) (laws : Laws m) where
  abbrev Nearer : State → Outcome → Type 0
  Nearer s o = payable m.size o.survey < payable m.size s

  tried_nearer : (s : State) (σ : Source) (e : ℕ) (q : Option ℕ) → ((p : ℕ) → payable m.size (paid_for s e p q) < payable m.size s)
      → (v : Verdict) → Pays (tried s σ e q v) → Nearer s (tried s σ e q v)
  tried_nearer s σ e q less (refused c) h = let x = h.2 in let z : ◌≡◌ {A = ℕ} 0 1 = cc in absurd (omega arith)
  tried_nearer s σ e q less (given p) h =
      cond_both (inside (s.entries e) p) _ _ (λ (o : Outcome). Pays o → Nearer s o) (λ t x. less p)
      (λ t x. let y = x.2 in let z : ◌≡◌ {A = ℕ} 0 1 = cc in absurd (omega arith)) h

  -- the element that is due is paid
  due_nearer : (s : State) (e p : ℕ) → due s ≡ Some e → payable m.size (paid_for s e p None) < payable m.size s
  due_nearer s e p d =
      let n : ℕ = m.size in
      let r = due_parts s.pending s.entries e d in
      let w : stray n (due s) ≡ stray n (Some e) = ap (stray n) d in
      elim (cases_lt e n) [
        | inl l ↦ let a = fewer n s.entries e p l r.1 in let b = stray_below n e l in omega arith
        | inr l ↦
            let a = unknown_part n s.entries e p in
            let b = cond-false {A = ℕ} (ltb e n) 0 1 (le-ltb e n l) in omega arith
      ]

  -- the first of a pair is paid
  pair_nearer : (s : State) (f g p : ℕ) → due s ≡ None → f < m.size → g < m.size → known (s.entries f) ≡ false
      → payable m.size (paid_for s f p (cond (known (s.entries g)) None (Some g))) < payable m.size s
  pair_nearer s f g p d lf lg u =
      let n : ℕ = m.size in
      let E : ℕ → Entry = priced s.entries f p in
      let a = fewer n s.entries f p lf u in
      let none : (o : Option ℕ) → ((x : ℕ) → o ≡ Some x → x < n) → stray n (due_of o E) ≡ 0 = below n E in
      let z = none (cond (known (s.entries g)) None (Some g))
      (λ x q. elim (cases_Bool (known (s.entries g))) [
        | inl t ↦ let y = cond-true {A = Option ℕ} (known (s.entries g)) None (Some g) t in let k : ◌≡◌ {A = ℕ} 0 1 = cc in absurd (omega arith)
        | inr t ↦ let y = cond-false {A = Option ℕ} (known (s.entries g)) None (Some g) t in let k : g ≡ x = cc in omega arith
      ]) in
      omega arith
    where
      below : (n : ℕ) (E : ℕ → Entry) (o : Option ℕ) → ((x : ℕ) → o ≡ Some x → x < n) → stray n (due_of o E) ≡ 0
      below n E None h = refl
      below n E (Some x) h = cond_both (known (E x)) None (Some x) (λ (d : Option ℕ). stray n d ≡ 0) (λ t. refl) (λ t. stray_below n x (h x refl))

  pays_nearer : (s : State) → ((i : ℕ) → Proper (s.entries i)) → (σ : Source) → Pays (step m s σ) → Nearer s (step m s σ)
  pays_nearer s proper σ = by_walk (walk m s.entries) (walked m laws s.entries)
    where
      by_due : (C : Elements) → Open m s.entries C → (o : Option ℕ) → due s ≡ o → Pays (acted s σ (readied m s C o)) → Nearer s (acted s σ (readied m s C o))
      by_due C o (Some e) d = tried_nearer s σ e None (λ p. due_nearer s e p d) (verdict σ.supply e)
      by_due C o None d =
          let f : ℕ = topmost m.size s.entries C in
          let g : ℕ = rival m.size s.entries C f in
          let pr = pair_found m laws s.entries C o proper in
          tried_nearer s σ f _ (λ p. pair_nearer s f g p d pr.f_below pr.g_below (open_unknown (s.entries f) pr.wide)) (verdict σ.supply f)

      by_walk : (z : Ended) → Walked m s.entries z → Pays (acted s σ (planned m s z)) → Nearer s (acted s σ (planned m s z))
      by_walk (settled K) w h = let x = h.2 in let z : ◌≡◌ {A = ℕ} 0 1 = cc in absurd (omega arith)
      by_walk (open_at C) o h = by_due C o (due s) refl h

  proper_priced : (E : ℕ → Entry) → ((i : ℕ) → Proper (E i)) → (e p i : ℕ) → Proper (priced E e p i)
  proper_priced E proper e p i = elim (cases_eq i e) [
    | inl q ↦ subst (λ (j : ℕ). Proper (priced E e p j)) (sym q) (subst (λ (x : Entry). Proper x) (sym (priced_here E e p)) tt)
    | inr d ↦ subst (λ (x : Entry). Proper x) (sym (priced_other E e p i d)) (proper i)
  ]

  -- ranges stay proper
  pub step_proper : (s : State) → ((i : ℕ) → Proper (s.entries i)) → (σ : Source) (i : ℕ) → Proper ((step m s σ).survey.entries i)
  step_proper s proper σ i = by_plan (next m s)
    where
      by_verdict : (e : ℕ) (q : Option ℕ) (v : Verdict) → Proper ((tried s σ e q v).survey.entries i)
      by_verdict e q (refused c) = proper i
      by_verdict e q (given p) =
          cond_both (inside (s.entries e) p) _ _ (λ (o : Outcome). Proper (o.survey.entries i)) (λ t. proper_priced s.entries proper e p i) (λ t. proper i)

      by_plan : (x : Plan) → Proper ((acted s σ x).survey.entries i)
      by_plan (rest K) = proper i
      by_plan (ask e q) = by_verdict e q (verdict σ.supply e)

  pub steps_unpaid : (k : ℕ) (s : State) → ((i : ℕ) → Proper (s.entries i)) → (σ : Source) → payable m.size s ≤ k → Pays (steps k m s σ) → ⊥
  steps_unpaid zero s proper σ l x = let a = pays_nearer s proper σ x in omega arith
  steps_unpaid (suc k) s proper σ l x = by_answer (steps_unpaid k) (step m s σ).answer refl x
    where
      by_answer : ((t : State) → ((i : ℕ) → Proper (t.entries i)) → (τ : Source) → payable m.size t ≤ k → Pays (steps k m t τ) → ⊥)
          → (y : Answer) → (step m s σ).answer ≡ y → Pays (went k m (step m s σ) y) → ⊥
      by_answer ih finished r z = unpaid (step m s σ) finished r (λ e p q. let w : ◌≡◌ {A = ℕ} 0 1 = cc in omega arith) z
      by_answer ih (paid e p) r z =
          let a = pays_nearer s proper σ (e, p, r) in ih (step m s σ).survey (step_proper s proper σ) (step m s σ).source (omega arith) z
      by_answer ih (outside d) r z = unpaid (step m s σ) (outside d) r (λ e p q. let w : ◌≡◌ {A = ℕ} 0 1 = cc in omega arith) z
      by_answer ih (declined d c) r z = unpaid (step m s σ) (declined d c) r (λ e p q. let w : ◌≡◌ {A = ℕ} 0 1 = cc in omega arith) z

  pub payable_most : (s : State) → payable m.size s ≤ suc m.size
  payable_most s = let a = count_all m.size (unknown s.entries) in let b = stray_most m.size (due s) in omega arith

  pub run_unpaid : (s : State) → ((i : ℕ) → Proper (s.entries i)) → (σ : Source) (e p : ℕ) → (run m s σ).answer ≡ paid e p → ⊥
  run_unpaid s proper σ e p q = steps_unpaid (suc m.size) s proper σ (payable_most s) (e, p, q)

  -- a step that pays leaves one less to pay
  pub pays_one : (s : State) → ((i : ℕ) → Proper (s.entries i)) → (σ : Source) (e p : ℕ) → (step m s σ).answer ≡ paid e p → payable m.size (step m s σ).survey < payable m.size s
  pays_one s proper σ e p q = pays_nearer s proper σ (e, p, q)
