-- What a set makes with one more element, as the kinds find it out. Assumes nothing.
use Rattle.std.specs.Prelude.{◌≡◌, ℕ, Bool, true, false, List, Option, Some, None, Ok, Err, Result}
use Rattle.fault.specs.declared.Fault.{Fault}
use Rattle.fault.specs.declared.Fault.TheVariants.{DependentSet}
use Rattle.fault.specs.Refusals.{refusal}
use Rattle.matroid.specs.declared.Closing.TheVariants.{Independent, Circuit}
use Rattle.matroid.specs.Sets.{Elements, with, cut}
use Rattle.matroid.specs.Matroids.{Meaning}
use Rattle.matroid.specs.Circuits.{IsCircuit}
use Rattle.matroid.specs.Questions.{marked, shown, Reply, declined}

-- nothing, or the marks of the circuit, or why there is no answer
abbrev pub Outcome : Type 0
Outcome = Result (Option (List Bool)) Fault

-- the outcome is that of S and e: S is dependent, or they are independent together, or e closes the circuit
abbrev pub OutcomeOf : Meaning → Elements → ℕ → Outcome → Type 0
OutcomeOf m S e (Err f) = (f ≡ DependentSet) × (m.independent S ≡ false)
OutcomeOf m S e (Ok None) = (m.independent S ≡ true) × (m.independent (with S e) ≡ true)
OutcomeOf m S e (Ok (Some C)) = (m.independent S ≡ true) × (m.independent (with S e) ≡ false) × IsCircuit m S e (marked C)

-- the reply from it: a circuit is shown by its elements below n
abbrev pub concluded : ℕ → Outcome → List Bool → Reply
concluded n (Err f) marks = declined (refusal f) marks
concluded n (Ok None) marks = record { answer = Ok Independent; marks = marks }
concluded n (Ok (Some C)) marks = record { answer = Ok Circuit; marks = shown (cut n (marked C)) marks }
