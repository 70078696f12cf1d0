-- A price call that the source refuses. Assumes nothing.
use Rattle.std.proofs.Common.{◌≡◌, ℕ, Bool, Ok, Err, Option, Result, refl, arith}
use Rattle.fault.specs.declared.Fault.{Fault}
use Rattle.fault.specs.Refusals.{Refusal, refusal}
use Rattle.source.specs.Supplies.{Supply, Verdict, refused, given, spoken, left_by}
use Rattle.promise.specs.Surveys.{Source, State, tried}

module _ (s : State) (σ : Source) (e : ℕ) (q : Option ℕ) (origin : ℕ → ℕ) (f : Fault) where
  never : {X : Type 0} (p : ℕ) → ◌≡◌ {A = Result ℕ Refusal} (Err (refusal f)) (Ok p) → X
  never p h = let z : ◌≡◌ {A = ℕ} 0 1 = cc in absurd (omega arith)

  pub refused_survey : (v : Verdict) → Err (refusal f) ≡ spoken v (origin e) e → s ≡ (tried s σ e q v).survey
  refused_survey (refused c) h = refl
  refused_survey (given p) h = never p h

  pub refused_source : (v : Verdict) → Err (refusal f) ≡ spoken v (origin e) e → (supply : Supply) (keeps : ℕ → Bool)
      → supply ≡ left_by v σ.supply (σ.keeps e) e → keeps ≡ σ.keeps
      → ◌≡◌ {A = Source} (record { supply = supply; keeps = keeps }) (tried s σ e q v).source
  refused_source (refused c) h supply keeps a b = λ i. record { supply = a i; keeps = b i }
  refused_source (given p) h supply keeps a b = never p h
