-- What a quota does is what its meaning says.
use Rattle.std.proofs.Common.{◌≡◌, ℕ, Bool, true, false, cond, not, ◌&&◌, eqb, Some, None, Err, Option, sym, refl, ap, ◌∙◌, arith}
use Rattle.std.proofs.lemmas.Bool.Decides.{nat_tests}
use Rattle.fault.specs.Refusals.{Refusal}
use Rattle.source.specs.Supplies.{Supply, Cause, spent, refused, verdict, of_price, exhausted, answered, left_by, after}
use Rattle.source.proofs.Verdicts.{refused_from}
use Rattle.layers.specs.Layers.{capped, limited, closed, blamed}

-- with a number left, a quota is exhausted when the source below is
exhausted_below : (n : ℕ) (a : Option ℕ) → eqb n 0 ≡ false → exhausted (capped n a) ≡ exhausted a
exhausted_below n (Some k) h = grind (arith, nat_tests)
exhausted_below n None h = h

shut_below : (f : Bool) (n : ℕ) (a : Option ℕ) → (not f && eqb n 0) ≡ false → (not f && exhausted (capped n a)) ≡ (not f && exhausted a)
shut_below true n a h = refl
shut_below false n a h = exhausted_below n a h

module _ (σ : Supply) (n e : ℕ) (opened : closed σ n e ≡ false) where
  -- what the quota does not refuse itself is decided below
  as_below : verdict (limited σ n) e ≡ verdict σ e
  as_below = ap (λ b. cond b (refused spent) (of_price (σ.price e))) (shut_below (σ.free e) n σ.allowance opened)

  -- a refusal from below: it is the quota's answer, and changes nothing
  module _ (τ : Supply) (origin later : ℕ → ℕ) (k : Bool) (r : Refusal) (came : Err r ≡ answered σ (origin e) e) (moved : τ ≡ after σ k e) where
    pub answers : Err r ≡ answered (limited σ n) (blamed σ origin n e) e
    answers = rw (as_below, opened) came

    refuses : (c : Cause) × (verdict σ e ≡ refused c)
    refuses = refused_from (verdict σ e) (origin e) e r came

    unmoved : τ ≡ σ
    unmoved = moved ∙ ap (λ v. left_by v σ k e) refuses.1

    pub keeps : limited τ n ≡ after (limited σ n) k e
    keeps = ap (λ s. limited s n) unmoved ∙ sym (ap (λ v. left_by v (limited σ n) k e) (as_below ∙ refuses.1))

    pub blames : later ≡ origin → blamed τ later n ≡ blamed σ origin n
    blames same = λ i. blamed (unmoved i) (same i) n
