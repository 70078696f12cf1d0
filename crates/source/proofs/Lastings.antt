-- Over any list of price calls: prices and depth stay, what is free stays free, and the allowance pays for all that was not free.
use Rattle.std.proofs.Common.{◌≡◌, ℕ, ◌+◌, Bool, true, false, cond, not, ◌&&◌, eqb, List, [], ◌∷◌, Some, None, Option, refl, ap, ◌∙◌, subst, inl, inr, arith}
use Rattle.std.proofs.lemmas.Bool.{cases_Bool, or_left, eqb-false}
use Rattle.source.specs.Supplies.{Supply, Verdict, refused, given, spent, of_price, verdict, exhausted, lowered, left_by, after}
use Rattle.source.specs.Calls.{Call, gives, payments, lessened, Covers, Lasting}

-- after one verdict
module _ (σ : Supply) (k : Bool) (e : ℕ) where
  price_by : (v : Verdict) → (left_by v σ k e).price ≡ σ.price
  price_by (refused c) = refl
  price_by (given p) = refl

  depth_by : (v : Verdict) → (left_by v σ k e).depth ≡ σ.depth
  depth_by (refused c) = refl
  depth_by (given p) = refl

  pub free_by : (v : Verdict) (i : ℕ) → σ.free i ≡ true → (left_by v σ k e).free i ≡ true
  free_by (refused c) i h = h
  free_by (given p) i h = or_left (σ.free i) (k && eqb i e) h

-- the verdict on an element that is free or not, with the allowance a and the price o
abbrev judged : Bool → Option ℕ → Option ℕ → Verdict
judged f a o = cond (not f && exhausted a) (refused spent) (of_price o)

-- what one call leaves of the allowance, and what it costs
abbrev remains : Bool → Verdict → Option ℕ → Option ℕ
remains f (refused c) a = a
remains f (given p) a = cond f a (lowered a)

abbrev cost : Bool → Verdict → ℕ
cost f v = cond (not f && gives v) 1 0

remains_by : (σ : Supply) (k : Bool) (e : ℕ) (v : Verdict) → (left_by v σ k e).allowance ≡ remains (σ.free e) v σ.allowance
remains_by σ k e (refused c) = refl
remains_by σ k e (given p) = refl

lessened_none : (a : Option ℕ) → a ≡ lessened 0 a
lessened_none (Some k) = ap Some (omega arith)
lessened_none None = refl

covers_none : (a : Option ℕ) → Covers a 0
covers_none (Some k) = omega arith
covers_none None = tt

-- one call: what is left is the allowance less the cost, which it covers
one : (f : Bool) (a o : Option ℕ) → (remains f (judged f a o) a ≡ lessened (cost f (judged f a o)) a) × Covers a (cost f (judged f a o))
one true a (Some p) = (lessened_none a, covers_none a)
one true a None = (lessened_none a, covers_none a)
one false None (Some p) = (refl, tt)
one false None None = (refl, tt)
one false (Some k) o =
    elim (cases_Bool (eqb k 0)) [
      | inl h ↦ rw h (lessened_none (Some k), covers_none (Some k))
      | inr h ↦ rw h (left_over o h)
    ] where
      left_over : (p : Option ℕ) → eqb k 0 ≡ false → (remains false (of_price p) (Some k) ≡ lessened (cost false (of_price p)) (Some k)) × Covers (Some k) (cost false (of_price p))
      left_over (Some p) h = (refl, omega (arith, eqb-false k 0 h))
      left_over None h = (lessened_none (Some k), covers_none (Some k))

-- one cost after another
lessened_twice : (m n : ℕ) (a : Option ℕ) → lessened m (lessened n a) ≡ lessened (n + m) a
lessened_twice m n (Some k) = ap Some (omega arith)
lessened_twice m n None = refl

covers_both : (m n : ℕ) (a : Option ℕ) → Covers a n → Covers (lessened n a) m → Covers a (n + m)
covers_both m n (Some k) h l = omega arith
covers_both m n None h l = tt

pub lasting : (σ : Supply) (cs : List Call) → Lasting σ cs
lasting σ [] = record {
  price = refl;
  depth = refl;
  free = λ e h. h;
  covered = covers_none σ.allowance;
  allowance = lessened_none σ.allowance;
}
lasting σ (c ∷ cs) =
    let e = c.element in
    let k = c.kept in
    let v = verdict σ e in
    let rest = lasting (after σ k e) cs in
    let once = one (σ.free e) σ.allowance (σ.price e) in
    let leaves : (after σ k e).allowance ≡ lessened (cost (σ.free e) v) σ.allowance = remains_by σ k e v ∙ once.0 in
    let m = payments (after σ k e) cs in
    record {
      price = rest.price ∙ price_by σ k e v;
      depth = rest.depth ∙ depth_by σ k e v;
      free = λ i h. rest.free i (free_by σ k e v i h);
      covered = covers_both m (cost (σ.free e) v) σ.allowance once.1 (subst (λ a. Covers a m) leaves rest.covered);
      allowance = rest.allowance ∙ ap (lessened m) leaves ∙ lessened_twice m (cost (σ.free e) v) σ.allowance;
    }
