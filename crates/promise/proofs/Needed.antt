-- Whoever knows a cheapest base has priced one of the two elements of an open circuit.
use Rattle.std.proofs.Common.{◌≡◌, ℕ, suc, ◌+◌, ◌-◌, ◌*◌, ◌<◌, ◌≤◌, true, false, cond, ◌⊎◌, sym, refl, ap, ◌∙◌, subst, inl, inr, arith}
use Rattle.std.proofs.lemmas.Bool.{both_ways, cases_Bool, cases_eq, cond-true, cond-false, and_left}
use Rattle.matroid.specs.Sets.{Elements, with, without, Part, under}
use Rattle.matroid.specs.Matroids.{Meaning, Laws}
use Rattle.promise.specs.Weighings.{Weighing, FitsSheet, Settles}
use Rattle.matroid.proofs.Members.{with_here, with_there, with_cases, with_part, without_parts, without_from, under_parts, none_false}
use Rattle.matroid.proofs.Counts.{count_with}
use Rattle.matroid.proofs.Thresholds.{under_most, top_out}
use Rattle.matroid.proofs.Spans.{span}
use Rattle.promise.proofs.Walking.{Open}
use Rattle.promise.proofs.Fitting.{times_lt, open_unknown, known_level, fits_between, fits_strict, fits_below, fits_at_most, at, at_here, at_other, Moved, cheapest_moved}
use Rattle.promise.proofs.Rivals.{Pair, open_inside, open_without, open_dependent, open_before}
use Rattle.entry.specs.Entries.{Entry, low, high, known}

-- F is the sheet, E the entries now
module _ (m : Meaning) (laws : Laws m) (F E : ℕ → Entry) (refined : (i : ℕ) → known (E i) ≡ false → F i ≡ E i)
    (w : Weighing) (fitsF : FitsSheet m.size F w) (fits : FitsSheet m.size E w) (R B : Elements) (settles : Settles m F w R B)
    (C : Elements) (o : Open m E C) (f g : ℕ) (pair : Pair m.size E C f g) where
  -- f high: the base is without it
  f_out : R f ≡ false → B f ≡ false
  f_out rf =
      let s : ℕ = w.scale in
      let pos = w.positive in
      let hi : ℕ = 3 * (high (E f) * s) - 1 in
      let u : ℕ → ℕ = at f hi (λ i. 3 * w.value i) in
      let wide = times_lt (low (E f)) (high (E f)) s pair.wide in
      let here : u f ≡ hi = at_here f hi (λ i. 3 * w.value i) in
      let other : (i : ℕ) → (i ≡ f → ⊥) → u i ≡ 3 * w.value i = at_other f hi (λ i. 3 * w.value i) in
      let ch = cheapest_moved m F E w R B refined fitsF settles u (λ i l. elim (cases_eq i f) [
        | inl q ↦ inr (subst (λ (j : ℕ). (R j ≡ false) × (known (E j) ≡ false) × (3 * (low (E j) * s) < u j) × (u j < 3 * (high (E j) * s))) (sym q)
            (rf, open_unknown (E f) pair.wide, omega arith, omega arith))
        | inr d ↦ inl (other i d)
      ]) in
      top_out m laws u B ch C f pair.f_below (open_dependent m laws E C o)
      (laws.part (without C f) (without (with o.kept o.closing) f)
      (λ i l k. let p = without_parts C f i k in without_from (with o.kept o.closing) f i p.0 (open_inside m laws E C o i p.1))
      (open_without m laws E C o f pair.f_in))
      (λ x l c d.
      let a = fits_below w x (E x) (high (E f)) (fits x l) (pair.highest x c) (pair.lower x c) in
      let b = other x d in omega arith)

  -- where g goes when f is low
  g_high : ℕ
  g_high = cond (known (E g)) (3 * w.value g) (3 * (high (E g) * w.scale) - 1)

  g_above : 3 * (low (E f) * w.scale) + 2 ≤ g_high
  unfolding g_high
  g_above =
      let pos = w.positive in
      let a = times_lt (low (E f)) (high (E g)) w.scale pair.above in
      elim (cases_Bool (known (E g))) [
        | inl k ↦
            let b = cond-true (known (E g)) (3 * w.value g) (3 * (high (E g) * w.scale) - 1) k in
            let c = (fits_between w g (E g) (fits g pair.g_below)).0 in
            let d = ap (λ (x : ℕ). x * w.scale) (known_level (E g) k) in omega arith
        | inr k ↦ let b = cond-false (known (E g)) (3 * w.value g) (3 * (high (E g) * w.scale) - 1) k in omega arith
      ]

  -- f low and g high
  f_low : ℕ → ℕ
  f_low = at f (suc (3 * (low (E f) * w.scale))) (at g g_high (λ i. 3 * w.value i))

  f_low_f : f_low f ≡ suc (3 * (low (E f) * w.scale))
  unfolding f_low
  f_low_f = at_here f (suc (3 * (low (E f) * w.scale))) (at g g_high (λ i. 3 * w.value i))

  f_low_g : f_low g ≡ g_high
  unfolding f_low
  f_low_g = at_other f (suc (3 * (low (E f) * w.scale))) (at g g_high (λ i. 3 * w.value i)) g pair.apart ∙ at_here g g_high (λ i. 3 * w.value i)

  f_low_other : (i : ℕ) → (i ≡ f → ⊥) → (i ≡ g → ⊥) → f_low i ≡ 3 * w.value i
  unfolding f_low
  f_low_other i d c = at_other f (suc (3 * (low (E f) * w.scale))) (at g g_high (λ i. 3 * w.value i)) i d ∙ at_other g g_high (λ i. 3 * w.value i) i c

  f_low_moved : R f ≡ false → (known (E g) ≡ true) ⊎ (R g ≡ false) → (i : ℕ) → i < m.size → Moved w E R f_low i
  unfolding g_high
  f_low_moved rf rg i l =
      let s : ℕ = w.scale in
      let pos = w.positive in
      elim (cases_eq i f) [
        | inl q ↦
            let a = f_low_f in
            let wide = times_lt (low (E f)) (high (E f)) s pair.wide in
            inr (subst (λ (j : ℕ). (R j ≡ false) × (known (E j) ≡ false) × (3 * (low (E j) * s) < f_low j) × (f_low j < 3 * (high (E j) * s))) (sym q)
            (rf, open_unknown (E f) pair.wide, omega arith, omega arith))
        | inr d ↦ elim (cases_eq i g) [
          | inl q ↦ subst (λ (j : ℕ). Moved w E R f_low j) (sym q) (elim (cases_Bool (known (E g))) [
            | inl k ↦ inl (f_low_g ∙ cond-true (known (E g)) (3 * w.value g) (3 * (high (E g) * w.scale) - 1) k)
            | inr k ↦ elim rg [
              | inl r ↦ absurd (both_ways (known (E g)) k r)
              | inr r ↦
                  let a = f_low_g in
                  let b = cond-false (known (E g)) (3 * w.value g) (3 * (high (E g) * w.scale) - 1) k in
                  let c = fits_strict w g (E g) (fits g pair.g_below) k in
                  inr (r, k, omega arith, omega arith)
            ]
          ])
          | inr c ↦ inl (f_low_other i d c)
        ]
      ]

  -- what a member of B no dearer than f is, and is not
  record Cheap (d : ℕ) : Type 0 where
    not_f : d ≡ f → ⊥
    not_g : d ≡ g → ⊥
    at_most : low (E d) ≤ low (E f)
    level : low (E f) ≤ low (E d) → high (E d) ≤ low (E d)

  cheap : B f ≡ false → (d : ℕ) → under f_low (suc (f_low f)) B d ≡ true → d < m.size → Cheap d
  cheap bf d k l =
      let p = under_parts f_low (suc (f_low f)) B d k in
      let hf = f_low_f in
      let not_f : d ≡ f → ⊥ = λ q. both_ways (B f) bf (subst (λ (j : ℕ). B j ≡ true) q p.0) in
      let not_g : d ≡ g → ⊥ = λ q. let a = ap f_low q in let b = f_low_g in let c = g_above in let z = p.1 in omega arith in
      let v = f_low_other d not_f not_g in
      let r = fits_at_most w d (E d) (low (E f)) (fits d l) (let z = p.1 in omega arith) in
      record { not_f = not_f; not_g = not_g; at_most = r.0; level = r.1 }

  -- the circuit without f and g
  left : Elements
  left = without (without (with o.kept o.closing) f) g

  left_from : (i : ℕ) → (i ≡ f → ⊥) → (i ≡ g → ⊥) → with o.kept o.closing i ≡ true → left i ≡ true
  unfolding left
  left_from i a b k = without_from (without (with o.kept o.closing) f) g i b (without_from (with o.kept o.closing) f i a k)

  left_out : left f ≡ false
  unfolding left
  left_out = none_false (left f) (λ k. let p = without_parts (without (with o.kept o.closing) f) g f k in
      (without_parts (with o.kept o.closing) f f p.1).0 refl)

  left_independent : m.independent (with left f) ≡ true
  unfolding left
  left_independent =
      let W : Elements = with o.kept o.closing in
      laws.part (with left f) (without W g)
      (with_part m.size left (without W g) f
      (λ i l k. let p = without_parts (without W f) g i k in without_from W g i p.0 (without_parts W f i p.1).1)
      (without_from W g f (λ q. pair.apart (sym q)) (open_inside m laws E C o f pair.f_in)))
      (open_without m laws E C o g pair.g_in)

  spanned : (d : ℕ) → d < m.size → Cheap d → (left d ≡ true) ⊎ (m.independent (with left d) ≡ false)
  spanned d l c =
      elim (o.placed d l) [
        | inl k ↦ inl (left_from d c.not_f c.not_g (with_there o.kept o.closing d k))
        | inr k ↦ elim k [
          | inl p ↦ inr (none_false (m.independent (with left d)) (λ z. both_ways (m.independent p.closed) p.dependent
              (laws.part p.closed (with left d) (λ j lj q. elim (cases_eq j d) [
                | inl r ↦ subst (λ (y : ℕ). with left d y ≡ true) (sym r) (with_here left d)
                | inr r ↦
                    let h = p.topped j lj q r in
                    let am = c.at_most in
                    let above = pair.above in
                    let wide = pair.wide in
                    elim (with_cases o.kept d j (p.inside j lj q)) [
                      | inl y ↦ absurd (r y)
                      | inr y ↦ with_there left d j (left_from j
                          (λ e. let a = ap (λ (x : ℕ). high (E x)) e in omega arith)
                          (λ e. let a = ap (λ (x : ℕ). high (E x)) e in omega arith)
                          (with_there o.kept o.closing j y))
                    ]
              ]) z)))
          | inr p ↦
              let bf = open_before m laws E C o f pair.f_in in
              let am = c.at_most in
              let l1 = bf.0 in let l2 = p.0 in
              let h1 = bf.1 (omega arith) in
              let h2 = p.1 (omega arith) in
              let h3 = c.level (omega arith) in
              let wide = pair.wide in
              absurd (omega arith)
        ]
      ]

  never : R f ≡ false → (known (E g) ≡ true) ⊎ (R g ≡ false) → ⊥
  never rf rg =
      let bf = f_out rf in
      let ch = cheapest_moved m F E w R B refined fitsF settles f_low (f_low_moved rf rg) in
      let A : Elements = under f_low (suc (f_low f)) B in
      let part : Part m.size A B = λ i l k. (under_parts f_low (suc (f_low f)) B i k).0 in
      let dep : m.independent (with A f) ≡ false = none_false (m.independent (with A f)) (λ z.
      let a = under_most m laws f_low B ch (suc (f_low f)) (with A f) z (λ i l k. elim (with_cases A f i k) [
        | inl q ↦ let a = ap f_low q in omega arith
        | inr q ↦ (under_parts f_low (suc (f_low f)) B i q).1
      ]) in
      let b = count_with m.size A f pair.f_below (and_left (B f) _ bf) in
      omega arith) in
      span m laws left A f pair.f_below (λ d l k. spanned d l (cheap bf d k l))
      (laws.part A B part ch.base.independent) dep left_out left_independent

  -- one of the two is in R
  pub needed : (R f ≡ true) ⊎ ((known (E g) ≡ false) × (R g ≡ true))
  needed =
      elim (cases_Bool (R f)) [
        | inl a ↦ inl a
        | inr a ↦ elim (cases_Bool (known (E g))) [
          | inl b ↦ absurd (never a (inl b))
          | inr b ↦ elim (cases_Bool (R g)) [ inl c ↦ inr (b, c) | inr c ↦ absurd (never a (inr c)) ]
        ]
      ]
