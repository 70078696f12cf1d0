-- What it means for a price that it fits an entry, and prices at three times the scale.
use Rattle.std.proofs.Common.{◌≡◌, ℕ, suc, ◌+◌, ◌*◌, ◌<◌, ◌≤◌, true, false, cond, eqb, ◌⊎◌, sym, refl, ap, ◌∙◌, subst, inl, inr, mul-le-mul_right, mul_assoc, suc-mul, lt_of_mul-lt-mul_right, le_of_mul-le-mul_right, mul_left_comm, arith}
use Rattle.std.proofs.lemmas.Bool.{both_ways, cond-true, cond-false, eq-eqb, ne_eqb}
use Rattle.matroid.specs.Sets.{Elements}
use Rattle.matroid.specs.Matroids.{Meaning}
use Rattle.matroid.specs.Bases.{Cheapest}
use Rattle.promise.specs.Weighings.{Weighing, Fits, FitsSheet, Settles}
use Rattle.entry.specs.Entries.{Entry, Known, Range, low, high, known, Proper}

pub times_le : (a b s : ℕ) → a ≤ b → a * s ≤ b * s
times_le a b s h = mul-le-mul_right s h

pub times_lt : (a b s : ℕ) → a < b → a * s + s ≤ b * s
times_lt a b s h = let p = mul-le-mul_right {m = suc a} {n = b} s h in let q = suc-mul a s in omega arith

pub low_high : (e : Entry) → Proper e → low e ≤ high e
low_high (Known p) h = omega arith
low_high (Range l h) k = omega arith

pub open_unknown : (e : Entry) → low e < high e → known e ≡ false
open_unknown (Known p) h = absurd (omega arith)
open_unknown (Range l h) k = refl

pub known_level : (e : Entry) → known e ≡ true → low e ≡ high e
known_level (Known p) h = refl
known_level (Range l h) k = absurd (both_ways false refl k)

pub fits_between : (w : Weighing) (i : ℕ) (e : Entry) → Fits w i e → (low e * w.scale ≤ w.value i) × (w.value i ≤ high e * w.scale)
fits_between w i (Known p) f = (omega arith, omega arith)
fits_between w i (Range l h) f = (omega arith, omega arith)

pub fits_strict : (w : Weighing) (i : ℕ) (e : Entry) → Fits w i e → known e ≡ false → (low e * w.scale < w.value i) × (w.value i < high e * w.scale)
fits_strict w i (Known p) f k = absurd (both_ways true k refl)
fits_strict w i (Range l h) f k = f

-- below a bound that the high does not pass and that the low is below
pub fits_below : (w : Weighing) (i : ℕ) (e : Entry) (b : ℕ) → Fits w i e → high e ≤ b → low e < b → w.value i < b * w.scale
fits_below w i (Known p) b f h l = let a = times_lt p b w.scale l in let s = w.positive in omega arith
fits_below w i (Range l' h') b f h l = let a = times_le h' b w.scale h in omega arith

-- a price that is no larger than b: the low is not either, and is b only where the entry is known
pub fits_at_most : (w : Weighing) (i : ℕ) (e : Entry) (b : ℕ) → Fits w i e → w.value i ≤ b * w.scale → (low e ≤ b) × (b ≤ low e → high e ≤ low e)
fits_at_most w i (Known p) b f h = (le_of_mul-le-mul_right {m = p} {n = b} {k = w.scale} (omega arith) w.positive, λ k. omega arith)
fits_at_most w i (Range l' h') b f h =
    let a : l' < b = lt_of_mul-lt-mul_right w.scale {m = l'} {n = b} (omega arith) in (omega arith, λ k. omega arith)

-- v with a for e
abbrev pub at : ℕ → ℕ → (ℕ → ℕ) → ℕ → ℕ
at e a v i = cond (eqb i e) a (v i)

pub at_here : (e a : ℕ) (v : ℕ → ℕ) → at e a v e ≡ a
at_here e a v = cond-true (eqb e e) a (v e) (eq-eqb e e refl)

pub at_other : (e a : ℕ) (v : ℕ → ℕ) (i : ℕ) → (i ≡ e → ⊥) → at e a v i ≡ v i
at_other e a v i d = cond-false (eqb i e) a (v i) (ne_eqb i e d)

-- the values u at three times the scale
abbrev pub tripled : Weighing → (ℕ → ℕ) → Weighing
tripled w u = record { scale = 3 * w.scale; positive = let s = w.positive in omega arith; value = u }

triple_fits : (w : Weighing) (u : ℕ → ℕ) (i : ℕ) (e : Entry) → Fits w i e → u i ≡ 3 * w.value i → Fits (tripled w u) i e
triple_fits w u i (Known p) f h = let a = mul_left_comm p 3 w.scale in omega arith
triple_fits w u i (Range l h') f h = let a = mul_left_comm l 3 w.scale in let b = mul_left_comm h' 3 w.scale in (omega arith, omega arith)

inner_fits : (w : Weighing) (u : ℕ → ℕ) (i : ℕ) (e : Entry) → known e ≡ false → 3 * (low e * w.scale) < u i → u i < 3 * (high e * w.scale) → Fits (tripled w u) i e
inner_fits w u i (Known p) n a b = absurd (both_ways true n refl)
inner_fits w u i (Range l h) n a b = let c = mul_left_comm l 3 w.scale in let d = mul_left_comm h 3 w.scale in (omega arith, omega arith)

-- i keeps its price, or is unknown, outside R, and moves inside its range
abbrev pub Moved : Weighing → (ℕ → Entry) → Elements → (ℕ → ℕ) → ℕ → Type 0
Moved w E R u i =
    (u i ≡ 3 * w.value i) ⊎ ((R i ≡ false) × (known (E i) ≡ false) × (3 * (low (E i) * w.scale) < u i) × (u i < 3 * (high (E i) * w.scale)))

pub cheapest_moved : (m : Meaning) (F E : ℕ → Entry) (w : Weighing) (R B : Elements) → ((i : ℕ) → known (E i) ≡ false → F i ≡ E i)
    → FitsSheet m.size F w → Settles m F w R B → (u : ℕ → ℕ) → ((i : ℕ) → i < m.size → Moved w E R u i) → Cheapest m u B
cheapest_moved m F E w R B refined fits settles u h =
    settles (tripled w u)
    (λ i l. elim (h i l) [
      | inl p ↦ triple_fits w u i (F i) (fits i l) p
      | inr p ↦ subst (λ (e : Entry). Fits (tripled w u) i e) (sym (refined i p.1)) (inner_fits w u i (E i) p.1 p.2 p.3)
    ])
    (λ i l r. elim (h i l) [
      | inl p ↦ mul_left_comm (w.value i) 3 w.scale ∙ sym (mul_assoc 3 (w.value i) w.scale) ∙ ap (λ (x : ℕ). x * w.scale) (sym p)
      | inr p ↦ absurd (both_ways (R i) p.0 r)
    ])
