-- A walk over the routes, with the number and the mark of each: `(0..255).zip(routes).zip(marks)`.
use Rattle.std.proofs.Common.{◌≡◌, ℕ, suc, ◌+◌, ◌-◌, ◌<◌, ◌≤◌, Bool, true, false, cond, eqb, List, ◌∷◌, length, drop, slice_index_or, sym, ap, subst, inl, inr, ◌∙◌, arith}
use Rattle.std.proofs.lemmas.Bool.{cases_lt, cond-true, cond-false}
use Rattle.matroid.specs.Questions.{marked}
use Rattle.matroid.proofs.Walks.{first_left}
use Rattle.kinds.specs.declared.Route.{Route}
use Rattle.kinds.specs.Kinds.{touch}
use Rattle.kinds.specs.Lists.{from, to, all_places}
use Rattle.routes.specs.declared.two_core.Incidence.{Incidence}
use Rattle.routes.specs.Cores.{EndsArePlaces, Tallied, Attached, touch_number}

-- the walk has come to number i; `routes` and `marks` are what is left
pub record Walk (rs : List Route) (ms : List Bool) (i end : ℕ) (routes : List Route) (marks : List Bool) : Type 0 where
  pub ends : end ≡ 255
  pub within : i ≤ length rs
  pub routes_left : routes ≡ drop i rs
  pub marks_left : marks ≡ drop i ms

-- it begins
pub begun : {rs routes : List Route} {ms marks : List Bool} {i end : ℕ} → i ≡ 0 → end ≡ 255 → routes ≡ rs → marks ≡ ms → Walk rs ms i end routes marks
begun {rs} {routes} {ms} {marks} z e r m = record {
  ends = e;
  within = omega arith;
  routes_left = r ∙ ap (λ x. drop x rs) (sym z);
  marks_left = m ∙ ap (λ x. drop x ms) (sym z);
}

-- one step of it, at the number k
module _ {rs routes routes_after : List Route} {ms marks marks_after : List Bool} {i j k end end_after : ℕ} {route : Route} {mark : Bool}
    (walk : Walk rs ms i end routes marks)
    (step : (((end_after ≡ end) × ((0 < end - i) × (k ≡ i) × (j ≡ i + 1))) × (routes ≡ route ∷ routes_after)) × (marks ≡ mark ∷ marks_after)) where
  here : (i < length rs) × (slice_index_or rs i (record { from = 0; to = 0 }) ≡ route) × (routes_after ≡ drop (suc i) rs)
  here = first_left (record { from = 0; to = 0 }) rs i route routes_after (sym walk.routes_left ∙ step.0.1)

  mark_here : (i < length ms) × (marked ms i ≡ mark) × (marks_after ≡ drop (suc i) ms)
  mark_here = first_left false ms i mark marks_after (sym walk.marks_left ∙ step.1)

  pub next : j ≡ suc i
  next = omega (arith, step.0.0.1.1)

  pub below : i < length rs
  below = let (l, _, _) = here in l

  pub walked : Walk rs ms j end_after routes_after marks_after
  walked =
      let (l, _, r) = here in
      let (_, _, m) = mark_here in
      record {
        ends = step.0.0.0 ∙ walk.ends;
        within = omega (arith, next);
        routes_left = r ∙ ap (λ x. drop x rs) (sym next);
        marks_left = m ∙ ap (λ x. drop x ms) (sym next);
      }

  pub from_here : from rs i ≡ route.from
  from_here = let (_, h, _) = here in ap (λ (r : Route). r.from) h

  pub to_here : to rs i ≡ route.to
  to_here = let (_, h, _) = here in ap (λ (r : Route). r.to) h

  pub marked_here : marked ms i ≡ mark
  marked_here = let (_, h, _) = mark_here in h

  -- what is noted, with a route that is marked, and past one that is not
  pub tallied_in : {places mid more : List Incidence} → mark ≡ true → Tallied i rs (marked ms) places → Attached route.from k places mid
      → Attached route.to k mid more → Tallied j rs (marked ms) more
  tallied_in {more = more} h t f s = subst (λ (n : ℕ). Tallied n rs (marked ms) more) (sym next) (record {
    degrees = λ c l.
        let d = t.degrees c l in
        let a = f.degrees c l in
        let b = s.degrees c l in
        let e = cond-true {A = ℕ} (marked ms i) (touch (from rs) (to rs) c i) 0 (marked_here ∙ h) in
        let x : cond {A = ℕ} (eqb (from rs i) c) 1 0 ≡ cond (eqb route.from c) 1 0 = ap (λ (p : ℕ). cond (eqb p c) 1 0) from_here in
        let y : cond {A = ℕ} (eqb (to rs i) c) 1 0 ≡ cond (eqb route.to c) 1 0 = ap (λ (p : ℕ). cond (eqb p c) 1 0) to_here in
        omega arith;
    numbered = λ c l.
        let d = t.numbered c l in
        let a = f.numbered c l in
        let b = s.numbered c l in
        let e = cond-true {A = ℕ} (marked ms i) (touch_number (from rs) (to rs) c i) 0 (marked_here ∙ h) in
        let x : cond {A = ℕ} (eqb (from rs i) c) i 0 ≡ cond (eqb route.from c) k 0 = ap (λ (p : ℕ). cond (eqb p c) i 0) from_here ∙ ap (λ (q : ℕ). cond (eqb route.from c) q 0) (sym step.0.0.1.1) in
        let y : cond {A = ℕ} (eqb (to rs i) c) i 0 ≡ cond (eqb route.to c) k 0 = ap (λ (p : ℕ). cond (eqb p c) i 0) to_here ∙ ap (λ (q : ℕ). cond (eqb route.to c) q 0) (sym step.0.0.1.1) in
        omega arith;
  })

  pub tallied_out : {places : List Incidence} → mark ≡ false → Tallied i rs (marked ms) places → Tallied j rs (marked ms) places
  tallied_out {places} h t = subst (λ (n : ℕ). Tallied n rs (marked ms) places) (sym next) (record {
    degrees = λ c l.
        let d = t.degrees c l in
        let e = cond-false {A = ℕ} (marked ms i) (touch (from rs) (to rs) c i) 0 (marked_here ∙ h) in
        omega arith;
    numbered = λ c l.
        let d = t.numbered c l in
        let e = cond-false {A = ℕ} (marked ms i) (touch_number (from rs) (to rs) c i) 0 (marked_here ∙ h) in
        omega arith;
  })

  pub places_more : route.from < all_places → route.to < all_places → EndsArePlaces i rs → EndsArePlaces j rs
  places_more f t p = record {
    froms = λ x l. elim (cases_lt x i) [
      | inl m ↦ p.froms x m
      | inr m ↦ let q : x ≡ i = omega (arith, next) in let e = ap (from rs) q in omega (arith, from_here)
    ];
    tos = λ x l. elim (cases_lt x i) [
      | inl m ↦ p.tos x m
      | inr m ↦ let q : x ≡ i = omega (arith, next) in let e = ap (to rs) q in omega (arith, to_here)
    ];
  }
