-- What a memory does is what its meaning says.
use Rattle.std.proofs.Common.{◌≡◌, ℕ, Bool, true, false, ◌&&◌, ◌||◌, is_some, Some, None, Ok, Option, sym, refl, ap, ◌∙◌, inl, inr}
use mathlib.Core.Path.{fun_ext}
use Rattle.std.proofs.lemmas.Bool.{cases_eq, eq-eqb, ne_eqb}
use Rattle.source.specs.Records.{posted}
use Rattle.source.specs.Supplies.{Supply, given, verdict, spoken, answered, freed, after}
use Rattle.source.proofs.Verdicts.{same_supply, given_from, price_given}
use Rattle.layers.specs.Layers.{or_else, remembering}

-- what was neither remembered nor free is free once it is remembered, and no other element is
free_with : (r f k : Bool) → (r || (f || (k && false))) ≡ ((r || f) || false)
free_with true f k = refl
free_with false true k = refl
free_with false false true = refl
free_with false false false = refl

or_true : (b : Bool) → true ≡ (b || true)
or_true true = refl
or_true false = refl

module _ (σ : Supply) (remembered : ℕ → Option ℕ) (e : ℕ) (fresh : remembered e ≡ None) where
  -- what is not remembered is decided below
  pub as_below : verdict (remembering σ remembered) e ≡ verdict σ e
  as_below = rw fresh

  module _ (k : Bool) (p : ℕ) where
    prices : σ.price e ≡ Some p → (i : ℕ) → or_else (posted remembered e (Some p) i) (σ.price i) ≡ or_else (remembered i) (σ.price i)
    prices came i =
        elim (cases_eq i e) [
          | inl is ↦ rw (is, eq-eqb e e refl, fresh, came)
          | inr isn't ↦ rw (ne_eqb i e isn't)
        ]

    free : (i : ℕ) → (is_some (posted remembered e (Some p) i) || freed k σ.free e i) ≡ freed true (λ x. is_some (remembered x) || σ.free x) e i
    free i =
        elim (cases_eq i e) [
          | inl is ↦ rw (is, eq-eqb e e refl) (or_true _)
          | inr isn't ↦ rw (ne_eqb i e isn't) (free_with (is_some (remembered i)) (σ.free i) k)
        ]

    -- a price that came from below is remembered
    pub remembers : verdict σ e ≡ given p → remembering (after σ k e) (posted remembered e (Some p)) ≡ after (remembering σ remembered) true e
    remembers came =
        rw (as_below, came)
        (same_supply (fun_ext (prices (price_given σ e p came))) (rw fresh) (fun_ext free) refl)

-- a price that comes from below while nothing is remembered for e: it is the memory's answer, and the memory keeps it
module _ (σ τ : Supply) (before later : ℕ → Option ℕ) (d e p : ℕ) (k : Bool) (fresh : before e ≡ None) where
  pub answers : Ok p ≡ answered σ d e → Ok p ≡ answered (remembering σ before) d e
  answers is = is ∙ sym (ap (λ v. spoken v d e) (as_below σ before e fresh))

  pub keeps : Ok p ≡ answered σ d e → τ ≡ after σ k e → later ≡ posted before e (Some p) → remembering τ later ≡ after (remembering σ before) true e
  keeps is below kept = (λ i. remembering (below i) (kept i)) ∙ remembers σ before e fresh k p (given_from (verdict σ e) d e p is)
