-- Prices that the entries leave possible, and what they settle. Assumes nothing.
use Rattle.std.specs.Prelude.{◌≡◌, ℕ, ◌*◌, ◌<◌, true, List, [], ◌∷◌}
use Rattle.matroid.specs.Sets.{Elements}
use Rattle.matroid.specs.Matroids.{Meaning}
use Rattle.matroid.specs.Bases.{Cheapest}
use Rattle.element.specs.declared.Line.{Line}
use Rattle.entry.specs.Entries.{Entry, Known, Range}

-- a price for each element, as a fraction: that of element i is value i / scale
pub record Weighing : Type 0 where
  pub scale : ℕ
  pub positive : 0 < scale
  pub value : ℕ → ℕ

-- the price of element i is that of the entry, or strictly inside its range
abbrev pub Fits : Weighing → ℕ → Entry → Type 0
Fits w i (Known p) = w.value i ≡ p * w.scale
Fits w i (Range l h) = (l * w.scale < w.value i) × (w.value i < h * w.scale)

-- the price of each element below n fits its entry on the sheet E
abbrev pub FitsSheet : ℕ → (ℕ → Entry) → Weighing → Type 0
FitsSheet n E w = (i : ℕ) → i < n → Fits w i (E i)

-- the price of the line's element is that of the line
abbrev pub Agrees : Weighing → Line → Type 0
Agrees w l = w.value l.element ≡ l.price * w.scale

-- P holds of each member of the list
abbrev pub Each : {A : Type 0} → (A → Type 0) → List A → Type 0
Each P [] = Unit {0}
Each P (x ∷ xs) = P x × Each P xs

-- the two weighings give element i the same price
abbrev pub Same : Weighing → Weighing → ℕ → Type 0
Same w u i = w.value i * u.scale ≡ u.value i * w.scale

-- whoever knows the sheet E, and under w the prices of R, knows that B is cheapest
abbrev pub Settles : Meaning → (ℕ → Entry) → Weighing → Elements → Elements → Type 0
Settles m E w R B =
    (u : Weighing) → FitsSheet m.size E u → ((i : ℕ) → i < m.size → R i ≡ true → Same w u i) → Cheapest m u.value B
