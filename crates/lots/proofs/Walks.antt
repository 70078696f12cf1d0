-- A walk over the lots and the marks of the elements side by side.
use Rattle.std.proofs.Common.{◌≡◌, ℕ, suc, ◌-◌, ◌<◌, ◌≤◌, Bool, true, false, cond, eqb, ◌&&◌, List, ◌∷◌, length, drop, sym, ap, ap₂, subst, inl, inr, ◌∙◌, arith}
use Rattle.std.proofs.lemmas.Bool.{cases_lt}
use Rattle.matroid.specs.Questions.{marked}
use Rattle.matroid.proofs.Walks.{first_left}
use Rattle.kinds.specs.Kinds.{within_lot}
use Rattle.kinds.specs.Lists.{all_places, at}
use Rattle.lots.specs.Counts.{Counted, OneMore}

-- how many elements the walk has passed, by the lots that are left
abbrev pub passed : List ℕ → List ℕ → ℕ
passed ls left = length ls - length left

pub record Walk (ls : List ℕ) (ms : List Bool) (left : List ℕ) (marks : List Bool) : Type 0 where
  pub within : length left ≤ length ls
  pub lots_left : left ≡ drop (passed ls left) ls
  pub marks_left : marks ≡ drop (passed ls left) ms

-- it begins
pub none_passed : {ls left : List ℕ} → left ≡ ls → passed ls left ≡ 0
none_passed l = let e = ap length l in omega arith

pub begun : {ls left : List ℕ} {ms marks : List Bool} → left ≡ ls → marks ≡ ms → Walk ls ms left marks
begun {ls} {left} {ms} {marks} l m = record {
  within = let e = ap length l in omega arith;
  lots_left = l ∙ ap (λ x. drop x ls) (sym (none_passed l));
  marks_left = m ∙ ap (λ x. drop x ms) (sym (none_passed l));
}

-- one step of it
module _ {ls left rest : List ℕ} {ms marks marks_rest : List Bool} {lot : ℕ} {mark : Bool} (walk : Walk ls ms left marks)
    (step : (left ≡ lot ∷ rest) × (marks ≡ mark ∷ marks_rest)) where
  here : (passed ls left < length ls) × (at ls (passed ls left) ≡ lot) × (rest ≡ drop (suc (passed ls left)) ls)
  here = first_left 0 ls (passed ls left) lot rest (sym walk.lots_left ∙ step.0)

  mark_here : (passed ls left < length ms) × (marked ms (passed ls left) ≡ mark) × (marks_rest ≡ drop (suc (passed ls left)) ms)
  mark_here = first_left false ms (passed ls left) mark marks_rest (sym walk.marks_left ∙ step.1)

  pub next : passed ls rest ≡ suc (passed ls left)
  next = let e = ap length step.0 in let w = walk.within in omega arith

  pub below : passed ls left < length ls
  below = let (l, _, _) = here in l

  pub lot_here : at ls (passed ls left) ≡ lot
  lot_here = let (_, h, _) = here in h

  pub marked_here : marked ms (passed ls left) ≡ mark
  marked_here = let (_, h, _) = mark_here in h

  pub walked : Walk ls ms rest marks_rest
  walked =
      let (_, _, r) = here in
      let (_, _, m) = mark_here in
      record {
        within = let e = ap length step.0 in let w = walk.within in omega arith;
        lots_left = r ∙ ap (λ x. drop x ls) (sym next);
        marks_left = m ∙ ap (λ x. drop x ms) (sym next);
      }

  pub counted_in : {less more : List ℕ} → mark ≡ true → Counted (passed ls left) ls (marked ms) less → OneMore lot less more → Counted (passed ls rest) ls (marked ms) more
  counted_in {less} {more} h t o = subst (λ (n : ℕ). Counted n ls (marked ms) more) (sym next) (λ j l.
      let a = t j l in
      let b = o.counts j l in
      let e : within_lot (at ls) (marked ms) j (passed ls left) ≡ eqb lot j = ap₂ (λ (m : Bool) (x : ℕ). m && eqb x j) (marked_here ∙ h) lot_here in
      let f : cond {A = ℕ} (within_lot (at ls) (marked ms) j (passed ls left)) 1 0 ≡ cond (eqb lot j) 1 0 = ap (λ (m : Bool). cond m 1 0) e in
      omega arith)

  pub counted_out : (counts : List ℕ) → mark ≡ false → Counted (passed ls left) ls (marked ms) counts → Counted (passed ls rest) ls (marked ms) counts
  counted_out counts h t = subst (λ (n : ℕ). Counted n ls (marked ms) counts) (sym next) (λ j l.
      let a = t j l in
      let e : within_lot (at ls) (marked ms) j (passed ls left) ≡ false = ap (λ (m : Bool). m && eqb (at ls (passed ls left)) j) (marked_here ∙ h) in
      let f : cond {A = ℕ} (within_lot (at ls) (marked ms) j (passed ls left)) 1 0 ≡ 0 = ap (λ (m : Bool). cond m 1 0) e in
      omega arith)

  pub places_more : lot < all_places → ((k : ℕ) → k < passed ls left → at ls k < all_places) → (k : ℕ) → k < passed ls rest → at ls k < all_places
  places_more f p k l = elim (cases_lt k (passed ls left)) [
    | inl m ↦ p k m
    | inr m ↦ let q : k ≡ passed ls left = omega (arith, next) in let e = ap (at ls) q in omega (arith, lot_here)
  ]
