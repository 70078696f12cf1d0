-- The only route at a leaf is stripped.
use Rattle.std.proofs.Common.{◌≡◌, ℕ, ◌+◌, ◌<◌, Bool, true, false, cond, eqb, List, length, set, sym, refl, ap, ◌∙◌, inl, inr, arith}
use Rattle.std.proofs.lemmas.Bool.{cases_eq, cond-true, cond-false, eq-eqb, ne_eqb}
use Rattle.matroid.specs.Sets.{without, sum}
use Rattle.matroid.proofs.Members.{without_parts}
use Rattle.matroid.proofs.Marks.{marked_unset}
use Rattle.matroid.proofs.Counts.{sum_without, sum_same, count_without, count_same}
use Rattle.kinds.specs.declared.Route.{Route}
use Rattle.routes.specs.declared.two_core.Incidence.{Incidence}
use Rattle.element.specs.Marks.{all_marks}
use Rattle.matroid.specs.Questions.{marked}
use Rattle.kinds.specs.Kinds.{touches, touch}
use Rattle.kinds.specs.Lists.{from, to, all_places}
use Rattle.routes.specs.Cores.{touch_number, degree, numbers, Tallied, Leaf, LeafStripped}
use Rattle.routes.proofs.Leaves.{leaf, stripped}

split : (n : ℕ) (v : ℕ → ℕ) (l : List Bool) (t : ℕ) → t < n → t < length l → marked l t ≡ true → sum n v (marked l) ≡ v t + sum n v (marked (set l t false))
split n v l t m k h =
    let x = sum_without n v (marked l) t m h in
    let y = sum_same n v v (marked (set l t false)) (without (marked l) t) (λ i _. marked_unset l t k i) (λ i _. refl) in
    omega arith

pub leaf_found : (rs : List Route) (l : List Bool) (places : List Incidence) (c : ℕ) → length rs < all_marks → length l ≡ all_marks → c < all_places
    → Tallied (length rs) rs (marked l) places → degree places c ≡ 1 → Leaf rs l places c (numbers places c)
leaf_found rs l places c n k m t o =
    let e = t.numbered c m in
    let (a, b, h) = leaf (length rs) (from rs) (to rs) (marked l) c (sym (t.degrees c m) ∙ o) in
    let below : numbers places c < length rs = omega arith in
    let has : marked l (numbers places c) ≡ true = ap (marked l) e ∙ b in
    record {
      below = below;
      has = has;
      once = ap (touch (from rs) (to rs) c) e ∙ h;
      degrees = λ x p. t.degrees x p ∙ split (length rs) (touch (from rs) (to rs) x) l (numbers places c) below (omega arith) has;
      numbered = λ x p. t.numbered x p ∙ split (length rs) (touch_number (from rs) (to rs) x) l (numbers places c) below (omega arith) has;
    }

other_place : (x y k : ℕ) → (x ≡ y → ⊥) → cond (eqb x y) k 0 ≡ 0
other_place x y k e = cond-false {A = ℕ} (eqb x y) k 0 (ne_eqb x y e)

-- of all places, a route that touches c once touches only c and its other end
one_other : (rs : List Route) (t c : ℕ) → touch (from rs) (to rs) c t ≡ 1 → (x : ℕ) → (x ≡ cond (eqb (from rs t) c) (to rs t) (from rs t) → ⊥) → (x ≡ c → ⊥)
    → touch (from rs) (to rs) x t ≡ 0
one_other rs t c o x h k =
    elim (cases_eq (from rs t) c) [
      | inl e ↦
          let a = other_place (from rs t) x 1 (λ z. k (sym z ∙ e)) in
          let b = other_place (to rs t) x 1 (λ z. h (sym z ∙ sym (cond-true (eqb (from rs t) c) (to rs t) (from rs t) (eq-eqb (from rs t) c e)))) in
          omega arith
      | inr e ↦
          let a = other_place (from rs t) x 1 (λ z. h (sym z ∙ sym (cond-false (eqb (from rs t) c) (to rs t) (from rs t) (ne_eqb (from rs t) c e)))) in
          let b = other_place (from rs t) c 1 e in
          elim (cases_eq (to rs t) c) [
            | inl z ↦ let d = other_place (to rs t) x 1 (λ y. k (sym y ∙ z)) in omega arith
            | inr z ↦ let d = other_place (to rs t) c 1 z in absurd (omega arith)
          ]
    ]

pub leaf_step : (rs : List Route) (l : List Bool) (places : List Incidence) (c t q : ℕ) → length rs < all_marks → length l ≡ all_marks → c < all_places
    → Tallied (length rs) rs (marked l) places → degree places c ≡ 1 → Leaf rs l places c t → q ≡ cond (eqb (from rs t) c) (to rs t) (from rs t)
    → LeafStripped rs c q (marked l) (marked (set l t false))
leaf_step rs l places c t q n k m w o f g =
    let inside : t < length l = let z = f.below in omega arith in
    record {
      strips = record {
        inside = λ i b h. (without_parts (marked l) t i (sym (marked_unset l t inside i) ∙ h)).1;
        even_parts = λ P u i b p. marked_unset l t inside i
            ∙ stripped (length rs) all_places (from rs) (to rs) (marked l) (marked l) c t m (sym (w.degrees c m) ∙ o) f.below f.once P u u.some.inside i b p;
      };
      fewer =
          let x = count_without (length rs) (marked l) t f.below f.has in
          let y = count_same (length rs) (marked (set l t false)) (without (marked l) t) (λ i _. marked_unset l t inside i) in
          omega arith;
      settled = λ x h e.
          let s = split (length rs) (touch (from rs) (to rs) x) l t f.below inside f.has in
          let not-leaf : x ≡ c → ⊥ = λ z.
          let r = split (length rs) (touch (from rs) (to rs) c) l t f.below inside f.has in
          let u = f.once in
          let v = w.degrees c m in
          let y : touches (length rs) (from rs) (to rs) (marked (set l t false)) c ≡ 1
          = ap (touches (length rs) (from rs) (to rs) (marked (set l t false))) (sym z) ∙ e in
          omega arith in
          let y = one_other rs t c f.once x (λ z. h (z ∙ sym g)) not-leaf in
          (not-leaf, omega arith);
    }
