-- What becomes of a stage when a price comes up, by which an element is taken later.
use Rattle.std.proofs.Common.{◌≡◌, ℕ, ◌<◌, ◌≤◌, Bool, true, false, cond, not, eqb, sym, refl, ap, ◌∙◌, subst, inl, inr, arith}
use mathlib.Core.Path.{fun_ext}
use Rattle.std.proofs.lemmas.Bool.{both_ways, cond-true, cond-false, cases_Bool, cases_eq, cases_lt, and_parts, and_left, and_right, ne_eqb, ltb-true}
use Rattle.std.proofs.lemmas.Bool.Decides.{nat_tests}
use Rattle.entry.specs.Entries.{Entry, Known, low, high, inside}
use Rattle.matroid.specs.Sets.{Elements, with, without, Part}
use Rattle.matroid.specs.Matroids.{Meaning, Laws}
use Rattle.matroid.specs.Circuits.{Closes, circuit}
use Rattle.matroid.proofs.Members.{none_false, with_here, with_there, with_cases, with_other, without_parts, without_here, every_true, every_false, every_from}
use Rattle.matroid.proofs.Circuits.{circuit_inside}
use Rattle.promise.specs.Surveys.{priced}
use Rattle.promise.specs.Walks.{earlier, topped}
use Rattle.promise.proofs.Orders.{no_later, no_later_chain, no_later_either}
use Rattle.walk.specs.Stages.{Next, Reached, begins, keeps, drops, lower, overtaken, behind, standing}
use Rattle.walk.proofs.Stages.{leads_untaken, leads_before, leads_from, stage_independent, stage_below, stage_part, stage_order, part_dependent, part_circuit, Tops, tops_from, topped_from, stage_as, stage_dropped}

-- ## The elements of low ends below h

module _ (m : Meaning) (E : ℕ → Entry) (h : ℕ) where
  lower_less : (S : Elements) (e : ℕ) → h ≤ low (E e) → lower E h (with S e) ≡ lower E h S
  lower_less S e l = fun_ext (λ i. grind (arith, nat_tests))

  lower_all : (S : Elements) → ((i : ℕ) → S i ≡ true → low (E i) < h) → lower E h S ≡ S
  lower_all S a = fun_ext (λ i. grind (arith, nat_tests, a i))

  -- what is taken before an element whose low is below h has such lows too
  all_lower : (S L : Elements) (e : ℕ) → Reached m E S L → Next m E S e → low (E e) < h → (i : ℕ) → with S e i ≡ true → low (E i) < h
  all_lower S L e r x l i t = grind (arith, nat_tests, x.below, leads_untaken m.size E S e x.leading, stage_order m E S L r i e)

  -- a stage with the elements of such lows alone
  pub stage_lower : (T K : Elements) → Reached m E T K → Reached m E (lower E h T) (lower E h K)
  stage_lower T K begins = begins
  stage_lower T K (keeps S L e r x f) = elim (cases_lt (low (E e)) h) [
    | inl l ↦
        let a = all_lower S L e r x l in
        let q = keeps S L e r x f in
        stage_as m E _ _ _ _ (lower_all (with S e) a) (lower_all (with L e) (λ i t. a i (stage_part m E (with S e) (with L e) q i t))) q
    | inr l ↦ stage_as m E _ _ _ _ (lower_less S e l) (lower_less L e l) (stage_lower S L r)
  ]
  stage_lower T K (drops S L e r x f z) = elim (cases_lt (low (E e)) h) [
    | inl l ↦
        let a = all_lower S L e r x l in
        let q = drops S L e r x f z in
        stage_as m E _ _ _ _ (lower_all (with S e) a) (lower_all L (λ i t. a i (stage_part m E (with S e) L q i t))) q
    | inr l ↦ stage_as m E _ _ _ _ (lower_less S e l) refl (stage_lower S L r)
  ]

-- ## A price that comes up

inside_low : (x : Entry) (p : ℕ) → inside x p ≡ true → low x < p
inside_low x p h = grind (arith, nat_tests)

inside_high : (x : Entry) (p : ℕ) → inside x p ≡ true → p < high x
inside_high x p h = grind (arith, nat_tests)

-- two entries that are the same in both lists are in the same order
same_order : (E F : ℕ → Entry) (i j : ℕ) → F i ≡ E i → F j ≡ E j → no_later E i j ≡ true → no_later F i j ≡ true
same_order E F i j a b h = rw (a, b) h

-- where the entries of all elements are the same, so are the stages
module _ (m : Meaning) (E F : ℕ → Entry) (same : (i : ℕ) → i < m.size → F i ≡ E i) where
  next_same : (S : Elements) (e : ℕ) → Next m E S e → Next m F S e
  next_same S e x = record {
    below = x.below;
    leading = leads_from m.size F S e (leads_untaken m.size E S e x.leading) (λ j l u.
        same_order E F e j (same e x.below) (same j l) (leads_before m.size E S e x.leading j l u));
  }

  pub stage_same : (T K : Elements) → Reached m E T K → Reached m F T K
  stage_same T K begins = begins
  stage_same T K (keeps S L e r x h) = keeps S L e (stage_same S L r) (next_same S e x) h
  stage_same T K (drops S L e r x h z) = drops S L e (stage_same S L r) (next_same S e x) h (topped_from m.size F (circuit m L e) e (λ i li c q.
      let t = tops_from m.size E (circuit m L e) e z i li c q in
      let a = ap high (same i li) in
      let b = ap low (same e x.below) in
      omega arith))

-- without x, with e
commute : (S : Elements) (e x : ℕ) → (e ≡ x → ⊥) → without (with S e) x ≡ with (without S x) e
commute S e x d = fun_ext (λ i. grind (arith, nat_tests))

without_with : (S : Elements) (x : ℕ) → without (with S x) x ≡ without S x
without_with S x = fun_ext (λ i. grind (arith, nat_tests))

with_without : (S : Elements) (x : ℕ) → S x ≡ true → with (without S x) x ≡ S
with_without S x s = fun_ext (λ i. grind (arith, nat_tests))

without_absent : (S : Elements) (x : ℕ) → S x ≡ false → without S x ≡ S
without_absent S x s = fun_ext (λ i. grind (arith, nat_tests))

-- x is earlier than a member of S, or not
module _ (n : ℕ) (E : ℕ → Entry) (x : ℕ) (S : Elements) where
  behind_true : behind n E x S ≡ true → (i : ℕ) → i < n → S i ≡ true → (i ≡ x → ⊥) → earlier E x i ≡ false
  behind_true h i l s d = grind (arith, nat_tests, every_true n (λ i. not (overtaken E x S i)) h i l)

  behind_false : behind n E x S ≡ false → (i : ℕ) × (i < n) × (S i ≡ true) × (i ≡ x → ⊥) × (earlier E x i ≡ true)
  behind_false h =
      let f = every_false n (λ i. not (overtaken E x S i)) h in
      (f.0, f.1, grind (arith, nat_tests, f.2), grind (arith, nat_tests, f.2), grind (arith, nat_tests, f.2))

  behind_from : ((i : ℕ) → i < n → S i ≡ true → (i ≡ x → ⊥) → earlier E x i ≡ false) → behind n E x S ≡ true
  behind_from h = every_from n (λ i. not (overtaken E x S i)) (λ i l. grind (arith, nat_tests, h i l))

-- x, an element, costs p, which lies in its range
module _ (m : Meaning) (laws : Laws m) (E : ℕ → Entry) (x p : ℕ) (cost : inside (E x) p ≡ true) (element : x < m.size) where
  abbrev New : ℕ → Entry
  New = priced E x p

  -- what x stands before with its price has a low that is above its own without it
  delayed : (i : ℕ) → (i ≡ x → ⊥) → earlier New x i ≡ true → low (E x) < low (E i)
  delayed i d h = grind (arith, nat_tests, inside_low (E x) p cost)

  -- so x is taken where something is that x stands before
  taken_too : (T K : Elements) → Reached m E T K → (i : ℕ) → T i ≡ true → (i ≡ x → ⊥) → earlier New x i ≡ true → T x ≡ false → ⊥
  taken_too T K r i t d h u = let a = delayed i d h in let b = stage_order m E T K r i x t element u in omega arith

  module _ (S L : Elements) (e : ℕ) (r : Reached m E S L) (y : Next m E S e) (d : e ≡ x → ⊥) where
    untaken : S e ≡ false
    untaken = leads_untaken m.size E S e y.leading

    -- e is the next with x taken
    next_with : S x ≡ true → Next m New S e
    next_with s = record {
      below = y.below;
      leading = leads_from m.size New S e untaken (λ j l u. let b = leads_before m.size E S e y.leading j l u in grind (arith, nat_tests));
    }

    -- e is the next without x, where x is not earlier
    next_without : earlier New x e ≡ false → Next m New (without S x) e
    next_without v = record {
      below = y.below;
      leading = leads_from m.size New (without S x) e (grind (arith, nat_tests, untaken)) (λ j l u.
          grind (arith, nat_tests, leads_before m.size E S e y.leading j l, no_later_either New x e));
    }

    -- x is the next without x, where it is earlier than e
    next_x : earlier New x e ≡ true → Next m New (without S x) x
    next_x v = record {
      below = element;
      leading = leads_from m.size New (without S x) x (without_here S x) (λ j l u. grind (arith, nat_tests, leads_before m.size E S e y.leading j l, no_later_chain New x e j));
    }

    -- x is taken anew
    retaken : S x ≡ true → earlier New x e ≡ true → Reached m New (without S x) (without L x) → Reached m New S L
    retaken s v w = elim (cases_Bool (L x)) [
      | inl k ↦
          let is = with_without L x k in
          let free = subst (λ (B : Elements). m.independent B ≡ true) (sym is) (stage_independent m E laws S L r) in
          stage_as m New _ _ _ _ (sym (with_without S x s)) (sym is) (keeps (without S x) (without L x) x w (next_x v) free)
      | inr k ↦
          let o = stage_dropped m laws E S L r x s k in
          let tops = topped_from m.size New (circuit m L x) x (λ i li c q. let a = o.tops i li c q in grind (arith, nat_tests, inside_low (E x) p cost)) in
          let rest = stage_as m New _ _ _ _ refl (sym (without_absent L x k)) w in
          stage_as m New _ _ _ _ (sym (with_without S x s)) refl (drops (without S x) L x rest (next_x v) o.closes.dependent tops)
    ]

    -- e tops its circuit, in which x is not
    module _ (f : m.independent (with L e) ≡ false) (z : topped m.size E (circuit m L e) e ≡ true) (reach : low (E e) < high (E x)) where
      closes : Closes m L e
      closes = record { below = y.below; independent = stage_independent m E laws S L r; dependent = f }

      not_x : (i : ℕ) → i < m.size → circuit m L e i ≡ true → i ≡ x → ⊥
      not_x i li c q = let a = tops_from m.size E (circuit m L e) e z i li c (λ v. d (sym v ∙ q)) in grind (arith, nat_tests)

      -- so it tops the same members with the price
      tops_new : Tops m.size New (circuit m L e) e
      tops_new i li c q = let a = tops_from m.size E (circuit m L e) e z i li c q in let b = not_x i li c in grind (arith, nat_tests)

      in_rest : Part m.size (circuit m L e) (with (without L x) e)
      in_rest i li c = let a = circuit_inside m L e i c in let b = not_x i li c in grind (arith, nat_tests)

      rest_part : Part m.size (without L x) L
      rest_part i li c = (without_parts L x i c).1

      dropped_with : S x ≡ true → Reached m New S L → Reached m New (with S e) L
      dropped_with s w = drops S L e w (next_with s) f (topped_from m.size New (circuit m L e) e tops_new)

      dropped_without : earlier New x e ≡ false → Reached m New (without S x) (without L x) → Reached m New (with (without S x) e) (without L x)
      dropped_without v w = drops (without S x) (without L x) e w (next_without v) (part_dependent m laws L (without L x) e closes rest_part in_rest)
          (topped_from m.size New (circuit m (without L x) e) e (λ i li c q.
          tops_new i li (part_circuit m laws L (without L x) e closes rest_part in_rest i li ∙ c) q))

  -- a stage without x where x is behind, and with it where it is not
  abbrev Moved : Elements → Elements → Type 0
  Moved T K = (behind m.size New x T ≡ true → Reached m New (without T x) (without K x)) × (behind m.size New x T ≡ false → Reached m New T K)

  behind_before : (S : Elements) (e : ℕ) → behind m.size New x (with S e) ≡ true → behind m.size New x S ≡ true
  behind_before S e h = behind_from m.size New x S (λ i l s q. behind_true m.size New x (with S e) h i l (with_there S e i s) q)

  -- x itself is taken
  moved_x : (S L K : Elements) → Reached m E S L → Next m E S x → without K x ≡ without L x → Moved S L → Moved (with S x) K
  moved_x S L K r y same w = (
    λ h. stage_as m New _ _ _ _ (without_with S x) same (w.0 (behind_before S x h)),
    λ h.
        let b = behind_false m.size New x (with S x) h in
        absurd (taken_too S L r b.0 (sym (with_other S x b.0 b.3) ∙ b.2) b.3 b.4 (leads_untaken m.size E S x y.leading)),
  )

  -- before another is taken, x is taken anew where it is earlier
  module _ (S L : Elements) (e : ℕ) (r : Reached m E S L) (y : Next m E S e) (d : e ≡ x → ⊥) (w : Moved S L) where
    stays_behind : behind m.size New x (with S e) ≡ true → earlier New x e ≡ false
    stays_behind h = behind_true m.size New x (with S e) h e y.below (with_here S e) d

    x_taken : behind m.size New x (with S e) ≡ false → S x ≡ false → ⊥
    x_taken h u =
        let b = behind_false m.size New x (with S e) h in
        let f = taken_too S L r b.0 in
        let o = leads_before m.size E S e y.leading x element u in
        let a = delayed b.0 b.3 b.4 in
        let g : S b.0 ≡ true → ⊥ = λ t. f t b.3 b.4 u in
        let k = b.2 in
        grind (arith, nat_tests)

    comes : behind m.size New x (with S e) ≡ false → (S x ≡ true) × Reached m New S L
    comes h =
        let s : S x ≡ true = elim (cases_Bool (S x)) [ inl q ↦ q | inr q ↦ absurd (x_taken h q) ] in
        let b = behind_false m.size New x (with S e) h in (
          s,
          elim (cases_Bool (behind m.size New x S)) [
            | inl k ↦ elim (with_cases S e b.0 b.2) [
              | inl q ↦ retaken S L e r y d s (subst (λ (j : ℕ). earlier New x j ≡ true) q b.4) (w.0 k)
              | inr q ↦ absurd (both_ways (earlier New x b.0) (behind_true m.size New x S k b.0 b.1 q b.3) b.4)
            ]
            | inr k ↦ w.1 k
          ],
        )

    moved_keeps : m.independent (with L e) ≡ true → Moved (with S e) (with L e)
    moved_keeps f = (
      λ h. stage_as m New _ _ _ _ (commute S e x d) (commute L e x d)
          (keeps (without S x) (without L x) e (w.0 (behind_before S e h)) (next_without S L e r y d (stays_behind h))
          (laws.part (with (without L x) e) (with L e) (λ i li c. grind (arith, nat_tests)) f)),
      λ h. let a = comes h in keeps S L e a.1 (next_with S L e r y d a.0) f,
    )

    moved_drops : m.independent (with L e) ≡ false → topped m.size E (circuit m L e) e ≡ true → low (E e) < high (E x) → Moved (with S e) L
    moved_drops f z reach = (
      λ h. stage_as m New _ _ _ _ (commute S e x d) refl (dropped_without S L e r y d f z reach (stays_behind h) (w.0 (behind_before S e h))),
      λ h. let a = comes h in dropped_with S L e r y d f z reach a.0 a.1,
    )

  moves : (T K : Elements) → Reached m E T K → ((i : ℕ) → T i ≡ true → low (E i) < high (E x)) → Moved T K
  moves T K begins a = (
    λ h. subst (λ (A : Elements). Reached m New A A) (fun_ext (λ i. sym (and_right (not (eqb i x)) false refl))) begins,
    λ h. begins,
  )
  moves T K (keeps S L e r y f) a =
      let w = moves S L r (λ i t. a i (with_there S e i t)) in
      elim (cases_eq e x) [
        | inl q ↦
            subst (λ (j : ℕ). Moved (with S j) (with L j)) (sym q)
            (moved_x S L (with L x) r (subst (λ (j : ℕ). Next m E S j) q y) (without_with L x) w)
        | inr q ↦ moved_keeps S L e r y q w f
      ]
  moves T K (drops S L e r y f z) a =
      let w = moves S L r (λ i t. a i (with_there S e i t)) in
      elim (cases_eq e x) [
        | inl q ↦ subst (λ (j : ℕ). Moved (with S j) L) (sym q) (moved_x S L L r (subst (λ (j : ℕ). Next m E S j) q y) refl w)
        | inr q ↦ moved_drops S L e r y q w f z (a e (with_here S e))
      ]

-- the price of x does not change which lows are below its high
lower_new : (E : ℕ → Entry) (x p : ℕ) → inside (E x) p ≡ true → (S : Elements) → lower (priced E x p) (high (E x)) S ≡ lower E (high (E x)) S
lower_new E x p cost S = fun_ext (λ i. grind (arith, nat_tests, inside_low (E x) p cost, inside_high (E x) p cost))

module _ (m : Meaning) (laws : Laws m) (E : ℕ → Entry) (x p : ℕ) (cost : inside (E x) p ≡ true) where
  -- S without x where x is behind the taken ones of lower lows
  abbrev placed : Elements → Elements → Elements
  placed T S = cond (behind m.size (priced E x p) x (lower E (high (E x)) T)) (without S x) S

  placed_absent : (T S : Elements) → S x ≡ false → placed T S ≡ S
  placed_absent T S s = grind (arith, nat_tests, without_absent S x s)

  stands : (T K : Elements) → Reached m E T K → Reached m (priced E x p) (placed T (lower E (high (E x)) T)) (placed T (lower E (high (E x)) K))
  stands T K r =
      let U : Elements = lower E (high (E x)) T in
      let V : Elements = lower E (high (E x)) K in
      let b : Bool = behind m.size (priced E x p) x (lower E (high (E x)) T) in
      let low-stage : Reached m E (lower E (high (E x)) T) (lower E (high (E x)) K) = stage_lower m E (high (E x)) T K r in
      elim (cases_lt x m.size) [
        | inl l ↦
            let w = moves m laws E x p cost l (lower E (high (E x)) T) (lower E (high (E x)) K) low-stage (λ i t. ltb-true (low (E i)) (high (E x)) (and_parts (T i) _ t).1) in
            elim (cases_Bool (behind m.size (priced E x p) x (lower E (high (E x)) T))) [
              | inl h ↦ stage_as m (priced E x p) _ _ _ _ (cond-true b (without U x) U h) (cond-true b (without V x) V h) (w.0 h)
              | inr h ↦ stage_as m (priced E x p) _ _ _ _ (cond-false b (without U x) U h) (cond-false b (without V x) V h) (w.1 h)
            ]
        | inr l ↦
            let same = stage_same m E (priced E x p) (λ i li. cond-false (eqb i x) (Known p) (E i) (ne_eqb i x (λ q. omega arith))) U V low-stage in
            let u : T x ≡ false = none_false (T x) (λ t. let o = stage_below m E T K r x t in omega arith) in
            let v : K x ≡ false = none_false (K x) (λ t. both_ways (T x) u (stage_part m E T K r x t)) in
            stage_as m (priced E x p) _ _ _ _ (placed_absent T U (and_left (T x) _ u)) (placed_absent T V (and_left (K x) _ v)) same
      ]

  standing_is : (F : ℕ → Entry) (h : ℕ) → h ≡ high (E x) → F ≡ priced E x p → (n : ℕ) → n ≡ m.size → (T S : Elements)
      → standing n F x h T S ≡ placed T (lower E (high (E x)) S)
  standing_is F h top is n size T S =
      let New : ℕ → Entry = priced E x p in
      ap (λ (j : ℕ). standing j F x h T S) size ∙ (ap (λ (A : ℕ → Entry). standing m.size A x h T S) is ∙ (ap (λ (j : ℕ). standing m.size New x j T S) top ∙
      (ap (λ (A : Elements). cond (behind m.size New x A) (without (lower New (high (E x)) S) x) (lower New (high (E x)) S)) (lower_new E x p cost T) ∙
      ap (λ (B : Elements). cond (behind m.size New x (lower E (high (E x)) T)) (without B x) B) (lower_new E x p cost S))))

  -- what stays of a stage over E is a stage over the entries F with the price
  pub stage_goes_back : (F : ℕ → Entry) (h : ℕ) → h ≡ high (E x) → F ≡ priced E x p → (n : ℕ) → n ≡ m.size → (T K T' K' : Elements)
      → T' ≡ standing n F x h T T → K' ≡ standing n F x h T K → Reached m E T K → Reached m F T' K'
  stage_goes_back F h top is n size T K T' K' t k r =
      subst (λ (A : ℕ → Entry). Reached m A T' K') (sym is)
      (stage_as m (priced E x p) _ _ _ _ (t ∙ standing_is F h top is n size T T) (k ∙ standing_is F h top is n size T K) (stands T K r))
