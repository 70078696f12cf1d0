-- The element that is due, and the pits that any survey needs, along the calls.
use Rattle.std.proofs.Common.{◌≡◌, ℕ, suc, ◌+◌, ◌*◌, ◌<◌, ◌≤◌, true, false, cond, ◌⊎◌, Some, None, Option, sym, refl, ap, ◌∙◌, subst, inl, inr, arith}
use Rattle.std.proofs.lemmas.Bool.{both_ways, cases_Bool, cond-true, cond-false, and_parts, and_from, and_right}
use Rattle.matroid.specs.Sets.{Elements, nothing, with, Part, count}
use Rattle.matroid.specs.Matroids.{Meaning}
use Rattle.promise.specs.Weighings.{Weighing, FitsSheet, Settles}
use Rattle.promise.specs.Surveys.{priced}
use Rattle.matroid.proofs.Members.{with_here, with_there, with_cases, with_part, common, none_false, none_true}
use Rattle.matroid.proofs.Counts.{count_with, count_part}
use Rattle.promise.proofs.Pricing.{priced_here, priced_other, known_stays, unknown_was, priced_fits}
use Rattle.entry.specs.Entries.{Entry, known, inside}

-- the element that is due, by the pending one and the entries
abbrev pub due_of : Option ℕ → (ℕ → Entry) → Option ℕ
due_of o E = elim o [ Some e ↦ cond (known (E e)) None (Some e) | None ↦ None ]

pub due_parts : (o : Option ℕ) (E : ℕ → Entry) (e : ℕ) → due_of o E ≡ Some e → (o ≡ Some e) × (known (E e) ≡ false)
due_parts (Some d) E e h =
    elim (cases_Bool (known (E d))) [
      | inl k ↦ let q = cond-true {A = Option ℕ} (known (E d)) None (Some d) k in let z : ◌≡◌ {A = ℕ} 0 1 = cc in absurd (omega arith)
      | inr k ↦
          let q = cond-false {A = Option ℕ} (known (E d)) None (Some d) k in
          let r : d ≡ e = cc in
          (ap Some r, subst (λ (j : ℕ). known (E j) ≡ false) r k)
    ]
due_parts None E e h = let z : ◌≡◌ {A = ℕ} 0 1 = cc in absurd (omega arith)

pub due_from : (o : Option ℕ) (E : ℕ → Entry) (e : ℕ) → o ≡ Some e → known (E e) ≡ false → due_of o E ≡ Some e
due_from o E e h k = subst (λ (x : Option ℕ). due_of x E ≡ Some e) (sym h) (cond-false {A = Option ℕ} (known (E e)) None (Some e) k)

-- of the prices paid some are firsts; as many of the prices that any other survey needs are in `used`, whose members are known or due
pub record Counted (m : Meaning) (F : ℕ → Entry) (paid firsts : ℕ) (pending : Option ℕ) (E : ℕ → Entry) : Type 0 where
  pub used : Elements
  pub met : (i : ℕ) → used i ≡ true → (known (E i) ≡ true) ⊎ (due_of pending E ≡ Some i)
  pub at_most : paid ≤ 2 * firsts
  pub less : (e : ℕ) → due_of pending E ≡ Some e → paid < 2 * firsts
  pub owed : (w : Weighing) → FitsSheet m.size E w → (R B : Elements) → Settles m F w R B → firsts ≤ count m.size (common R used)
  pub in_range : (e : ℕ) → pending ≡ Some e → e < m.size

pub counted_start : (m : Meaning) (F : ℕ → Entry) → Counted m F 0 0 None F
counted_start m F = record {
  used = nothing;
  met = λ i h. absurd (both_ways false refl h);
  at_most = omega arith;
  less = λ e h. let z : ◌≡◌ {A = ℕ} 0 1 = cc in absurd (omega arith);
  owed = λ w f R B s. omega arith;
  in_range = λ e h. let z : ◌≡◌ {A = ℕ} 0 1 = cc in absurd (omega arith);
}

-- the price of the element that is due
pub counted_due : (m : Meaning) (F : ℕ → Entry) (k h : ℕ) (o : Option ℕ) (E : ℕ → Entry) (e p : ℕ) → Counted m F k h o E → due_of o E ≡ Some e
    → inside (E e) p ≡ true → Counted m F (k + 1) h None (priced E e p)
counted_due m F k h o E e p c d i =
    let pd = due_parts o E e d in
    record {
      used = c.used;
      met = λ j u. elim (c.met j u) [
        | inl q ↦ inl (known_stays E e p j q)
        | inr q ↦ let r : j ≡ e = cc in inl (subst (λ (x : ℕ). known (priced E e p x) ≡ true) (sym r) (ap known (priced_here E e p)))
      ];
      at_most = let a = c.less e d in omega arith;
      less = λ x q. let z : ◌≡◌ {A = ℕ} 0 1 = cc in absurd (omega arith);
      owed = λ w f R B s. c.owed w (priced_fits m.size E e p w (c.in_range e pd.0) i f).0 R B s;
      in_range = λ x q. let z : ◌≡◌ {A = ℕ} 0 1 = cc in absurd (omega arith);
    }

-- a price by a note
pub counted_noted : (m : Meaning) (F : ℕ → Entry) (k h : ℕ) (o : Option ℕ) (E : ℕ → Entry) (e p : ℕ) → Counted m F k h o E → e < m.size
    → inside (E e) p ≡ true → Counted m F k h o (priced E e p)
counted_noted m F k h o E e p c l i = record {
  used = c.used;
  met = λ j u. elim (c.met j u) [
    | inl q ↦ inl (known_stays E e p j q)
    | inr q ↦ elim (cases_Bool (known (priced E e p j))) [
      | inl r ↦ inl r
      | inr r ↦ inr (due_from o (priced E e p) j (due_parts o E j q).0 r)
    ]
  ];
  at_most = c.at_most;
  less = λ x q. let r = due_parts o (priced E e p) x q in c.less x (due_from o E x r.0 (unknown_was E e p x r.1));
  owed = λ w f R B s. c.owed w (priced_fits m.size E e p w l i f).0 R B s;
  in_range = c.in_range;
}

-- one more pair: the price of f, with g due next unless it is known
module _ (m : Meaning) (F : ℕ → Entry) (k h : ℕ) (o : Option ℕ) (E : ℕ → Entry) (c : Counted m F k h o E) (d : due_of o E ≡ None) where
  -- nothing is due, so what is used is known
  used_known : (i : ℕ) → known (E i) ≡ false → c.used i ≡ true → ⊥
  used_known i n u = elim (c.met i u) [
    | inl q ↦ both_ways (known (E i)) n q
    | inr q ↦ let z : ◌≡◌ {A = ℕ} 0 1 = cc in omega arith
  ]

  one_more : (R U : Elements) (x : ℕ) → x < m.size → known (E x) ≡ false → R x ≡ true → U x ≡ true → Part m.size c.used U
      → suc (count m.size (common R c.used)) ≤ count m.size (common R U)
  one_more R U x l n r u h =
      let S : Elements = common R c.used in
      let out : S x ≡ false = and_right (R x) (c.used x) (none_false (c.used x) (used_known x n)) in
      let a = count_with m.size S x l out in
      let b = count_part m.size (with S x) (common R U) (with_part m.size S (common R U) x
      (λ j lj y. let z = and_parts (R j) (c.used j) y in and_from (R j) (U j) z.0 (h j lj z.1)) (and_from (R x) (U x) r u)) in
      omega arith

  pub counted_pair : (f g p : ℕ) → f < m.size → g < m.size → (g ≡ f → ⊥) → known (E f) ≡ false → inside (E f) p ≡ true
      → ((w : Weighing) → FitsSheet m.size E w → (R B : Elements) → Settles m F w R B → (R f ≡ true) ⊎ ((known (E g) ≡ false) × (R g ≡ true)))
      → Counted m F (k + 1) (suc h) (cond (known (E g)) None (Some g)) (priced E f p)
  counted_pair f g p lf lg apart n ins need =
      let U : Elements = with (with c.used f) g in
      let inU : Part m.size c.used U = λ i l u. with_there (with c.used f) g i (with_there c.used f i u) in
      let next : Option ℕ = cond (known (E g)) None (Some g) in
      record {
        used = U;
        met = λ i u. elim (with_cases (with c.used f) g i u) [
          | inl q ↦ subst (λ (j : ℕ). (known (priced E f p j) ≡ true) ⊎ (due_of next (priced E f p) ≡ Some j)) (sym q)
              (elim (cases_Bool (known (E g))) [
                | inl a ↦ inl (known_stays E f p g a)
                | inr a ↦ inr (due_from next (priced E f p) g (cond-false {A = Option ℕ} (known (E g)) None (Some g) a) (ap known (priced_other E f p g apart) ∙ a))
              ])
          | inr q ↦ elim (with_cases c.used f i q) [
            | inl r ↦ inl (subst (λ (j : ℕ). known (priced E f p j) ≡ true) (sym r) (ap known (priced_here E f p)))
            | inr r ↦ inl (known_stays E f p i (none_true (known (E i)) (λ z. used_known i z r)))
          ]
        ];
        at_most = let a = c.at_most in omega arith;
        less = λ x q. let a = c.at_most in omega arith;
        owed = λ w fw R B s.
            let fe = (priced_fits m.size E f p w lf ins fw).0 in
            let a = c.owed w fe R B s in
            let b : suc (count m.size (common R c.used)) ≤ count m.size (common R U) = elim (need w fe R B s) [
              | inl r ↦ one_more R U f lf n r (with_there (with c.used f) g f (with_here c.used f)) inU
              | inr r ↦ one_more R U g lg r.0 r.1 (with_here (with c.used f) g) inU
            ] in
            omega arith;
        in_range = λ x q. elim (cases_Bool (known (E g))) [
          | inl a ↦ let y = cond-true {A = Option ℕ} (known (E g)) None (Some g) a in let z : ◌≡◌ {A = ℕ} 0 1 = cc in absurd (omega arith)
          | inr a ↦ let y = cond-false {A = Option ℕ} (known (E g)) None (Some g) a in let z : x ≡ g = cc in omega arith
        ];
      }
