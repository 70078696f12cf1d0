-- What a survey promises after any list of calls. Assumes nothing.
use Rattle.std.specs.Prelude.{◌≡◌, ℕ, ◌*◌, ◌<◌, ◌≤◌, false, ◌⊎◌, List, [], ◌∷◌, ◌++◌, length, Some, Option}
use Rattle.matroid.specs.Sets.{Elements, nothing, with, count}
use Rattle.matroid.specs.Matroids.{Meaning, Laws}
use Rattle.matroid.specs.Bases.{Base, Cheapest}
use Rattle.element.specs.declared.Line.{Line}
use Rattle.promise.specs.Weighings.{Weighing, Each, Settles}
use Rattle.promise.specs.Surveys.{Source, fresh, report}
use Rattle.promise.specs.Calls.{Call, step_with, run_with, note_of, report_into, after, notes, firsts, Possible}
use Rattle.entry.specs.Entries.{Entry, Proper}

-- B is a base, and cheapest under every possible weighing
abbrev pub AlwaysCheapest : Meaning → (ℕ → Entry) → List Call → Elements → Type 0
AlwaysCheapest m E cs B = Base m B × ((w : Weighing) → Possible m E cs w → Cheapest m w.value B)

-- a report shows a base exactly when one is cheapest under every possible weighing, and shows such a one
pub record Right (m : Meaning) (E : ℕ → Entry) (cs : List Call) : Type 0 where
  pub sound : (B : Elements) → report m (after m (fresh E) cs) ≡ Some B → AlwaysCheapest m E cs B
  pub complete : (B : Elements) → AlwaysCheapest m E cs B → (A : Elements) × (report m (after m (fresh E) cs) ≡ Some A)

-- at most twice the prices that any other survey of the sheet needs
abbrev pub Few : Meaning → (ℕ → Entry) → List Call → Type 0
Few m E cs =
    (w : Weighing) → Possible m E cs w → (R B : Elements) → Settles m E w R B
    → length (after m (fresh E) cs).ledger ≤ 2 * count m.size R

-- the source has the prices P for the elements below n
abbrev pub Prices : ℕ → (ℕ → Option ℕ) → Source → Type 0
Prices n P σ = (e : ℕ) → e < n → σ.supply.price e ≡ P e

-- every source that the call is given has those prices
abbrev pub Priced : ℕ → (ℕ → Option ℕ) → Call → Type 0
Priced n P (step_with σ) = Prices n P σ
Priced n P (run_with σ) = Prices n P σ
Priced n P (note_of e p) = Unit {0}
Priced n P (report_into marks) = Unit {0}

-- the second list goes on from the first
abbrev pub Begins : List Line → List Line → Type 0
Begins xs ys = (rest : List Line) × (xs ++ rest ≡ ys)

-- of two lists of calls, the ledger of one goes on from that of the other; where both reports show a base, all is the same
pub record Repeatable (m : Meaning) (E : ℕ → Entry) (cs ds : List Call) : Type 0 where
  pub ledgers : Begins (after m (fresh E) cs).ledger (after m (fresh E) ds).ledger ⊎ Begins (after m (fresh E) ds).ledger (after m (fresh E) cs).ledger
  pub ends : (A B : Elements) → report m (after m (fresh E) cs) ≡ Some A → report m (after m (fresh E) ds) ≡ Some B
      → ((after m (fresh E) cs).ledger ≡ (after m (fresh E) ds).ledger) × (A ≡ B)

-- of the prices paid at least half are first ones, and any other survey of the sheet needs as many prices as there are first ones
pub record Halved (m : Meaning) (E : ℕ → Entry) (cs : List Call) : Type 0 where
  pub half : length (after m (fresh E) cs).ledger ≤ 2 * firsts m (fresh E) cs
  pub owed : (w : Weighing) → Possible m E cs w → (R B : Elements) → Settles m E w R B → firsts m (fresh E) cs ≤ count m.size R

-- the elements that the lines are for
abbrev pub elements_of : List Line → Elements
elements_of [] = nothing
elements_of (l ∷ ls) = with (elements_of ls) l.element

-- the prices that a survey has paid and was told settle the base that it reports
abbrev pub Sufficient : Meaning → (ℕ → Entry) → List Call → Type 0
Sufficient m E cs =
    (B : Elements) → report m (after m (fresh E) cs) ≡ Some B → (w : Weighing) → Possible m E cs w
    → Settles m E w (elements_of ((after m (fresh E) cs).ledger ++ notes m (fresh E) cs)) B

-- no element stands twice in a ledger
abbrev pub Apart : List Line → Type 0
Apart [] = Unit {0}
Apart (l ∷ ls) = (elements_of ls l.element ≡ false) × Apart ls

-- the whole promise, for the list cs of calls on a fresh survey of the sheet E
pub record Promise (m : Meaning) (E : ℕ → Entry) (cs : List Call) : Type 0 where
  -- what is reported is cheapest whatever is still possible, and is reported as soon as there is such a base
  pub right : Right m E cs
  -- at most twice the prices that any other survey of the sheet needs are paid
  pub few : Few m E cs
  -- other calls with the same prices, and no notes, pay the same prices and come to the same base
  pub repeatable : (P : ℕ → Option ℕ) (ds : List Call) → Each (Priced m.size P) cs → Each (Priced m.size P) ds
      → notes m (fresh E) cs ≡ [] → notes m (fresh E) ds ≡ [] → Repeatable m E cs ds
  -- something is still possible
  pub possible : (w : Weighing) × Possible m E cs w
  -- the bound in its two parts
  pub halved : Halved m E cs
  -- what was paid and told is enough
  pub sufficient : Sufficient m E cs
  -- nothing is paid twice
  pub apart : Apart (after m (fresh E) cs).ledger

-- it holds of every matroid, every sheet of proper ranges and every list of calls
abbrev pub Promises : Type 0
Promises = (m : Meaning) → Laws m → (E : ℕ → Entry) → ((i : ℕ) → Proper (E i)) → (cs : List Call) → Promise m E cs
