-- How the code's walks end, how far they have come, and what the code asks a matroid. Assumes nothing.
--     ended w          the end that the value w stands for
--     Along m E p      the walk over E comes to the progress p
--     Askable m K e    the circuit that e closes over K may be asked for
--     Closed m K e o   o has the marks of that circuit, if there is one
--     found n k        the number k where it is below n, and else none
--     Highest n E C o  o is the largest high of a member below n, if there is one
use Rattle.std.specs.Prelude.{◌≡◌, ℕ, ◌<◌, ◌≤◌, Bool, true, false, List, Some, None, Option, cond, nat_lt}
use Rattle.entry.specs.Entries.{Entry, high}
use Rattle.matroid.specs.Sets.{Elements, with}
use Rattle.matroid.specs.Matroids.{Meaning}
use Rattle.matroid.specs.Circuits.{circuit}
use Rattle.matroid.specs.Questions.{marked}
use Rattle.promise.specs.Walks.{Ended, settled, open_at}
use Rattle.walk.specs.Stages.{Reached}
use Rattle.walk.specs.declared.Walk.{Walk}
use Rattle.walk.specs.declared.Walk.TheVariants.{Settled, Open}
use Rattle.walk.specs.declared.progress.Progress.{Progress}

abbrev pub ended : Walk → Ended
ended (Settled marks) = settled (marked marks)
ended (Open marks) = open_at (marked marks)

-- the elements that are taken
abbrev pub taken_of : Progress → Elements
taken_of p = marked p.taken

-- those of them that are kept
abbrev pub kept_of : Progress → Elements
kept_of p = marked p.kept

abbrev pub Along : Meaning → (ℕ → Entry) → Progress → Type 0
Along m E p = Reached m E (taken_of p) (kept_of p)

-- an element outside an independent set of elements
pub record Askable (m : Meaning) (K : Elements) (e : ℕ) : Type 0 where
  pub independent : m.independent K ≡ true
  pub below : e < m.size
  pub outside : K e ≡ false
  pub above : (i : ℕ) → m.size ≤ i → K i ≡ false

-- no marks where K is independent with e, else those of the circuit
abbrev pub Closed : Meaning → Elements → ℕ → Option (List Bool) → Type 0
Closed m K e None = m.independent (with K e) ≡ true
Closed m K e (Some marks) = (m.independent (with K e) ≡ false) × (marked marks ≡ circuit m K e)

-- a search below n answers n for none
abbrev pub found : ℕ → ℕ → Option ℕ
found n k = cond (nat_lt k n) (Some k) None

-- no member is below n, or h is the high of one, and none has a larger
abbrev pub Highest : ℕ → (ℕ → Entry) → Elements → Option ℕ → Type 0
Highest n E C None = (i : ℕ) → i < n → C i ≡ false
Highest n E C (Some h) = ((j : ℕ) → j < n → C j ≡ true → high (E j) ≤ h) × ((i : ℕ) × (i < n) × (C i ≡ true) × (high (E i) ≡ h))
