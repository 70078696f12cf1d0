-- A layer over a sound source is sound. Assumes nothing.
use Rattle.std.specs.Prelude.{◌≡◌, ℕ, ◌≤◌, Bool, true, ◌||◌, is_some, Some, None, Option, refl}
use Rattle.std.proofs.Common.{arith}
use Rattle.std.proofs.lemmas.Bool.{cond_both}
use Rattle.source.specs.Supplies.{Supply, Sound, deepest, deeper}
use Rattle.layers.specs.Layers.{or_else, remembering, limited, closed, blamed}

remembered_priced : (r o : Option ℕ) (f : Bool) → (f ≡ true → is_some o ≡ true) → (is_some r || f) ≡ true → is_some (or_else r o) ≡ true
remembered_priced (Some p) o f priced h = refl
remembered_priced None o f priced h = priced h

deeper_more : (d o : ℕ) → d ≤ deepest → o ≤ d → o ≤ deeper d
deeper_more d o shallow within = omega arith

pub remembering_sound : (σ : Supply) (origin : ℕ → ℕ) → Sound σ origin → (remembered : ℕ → Option ℕ) → Sound (remembering σ remembered) origin
remembering_sound σ origin sound remembered = record {
  priced = λ e h. remembered_priced (remembered e) (σ.price e) (σ.free e) (sound.priced e) h;
  shallow = omega arith;
  within = λ e. deeper_more σ.depth (origin e) sound.shallow (sound.within e);
}

pub limited_sound : (σ : Supply) (origin : ℕ → ℕ) → Sound σ origin → (n : ℕ) → Sound (limited σ n) (blamed σ origin n)
limited_sound σ origin sound n = record {
  priced = sound.priced;
  shallow = omega arith;
  within = λ e. cond_both (closed σ n e) (deeper σ.depth) (origin e) (λ d. d ≤ deeper σ.depth) (λ h. omega arith) (λ h. deeper_more σ.depth (origin e) sound.shallow (sound.within e));
}
