-- What is proved of `checked`. Assumes nothing.
use Rattle.std.specs.Prelude.{◌≡◌, ℕ, ◌≤◌, ◌↔◌, List, length, Ok, Err, Result, ◌≢◌}
use Rattle.fault.specs.Refusals.{Refusal}
use Rattle.form.specs.declared.Kind.{Kind}
use Rattle.form.specs.Sheets.{Sheet, Legal, written, most_bytes}
use Rattle.form.specs.Reading.{got, heading, checked}

-- the bytes are accepted as a sheet just where it is legal and they are what it is written as
abbrev pub AcceptsTheWritten : Type 0
AcceptsTheWritten = (bs : List ℕ) (s : Sheet) → (checked bs ≡ Ok s) ↔ (Legal s × (written s ≡ bs))

-- a legal sheet is read back from what is written of it
abbrev pub ReadsBack : Type 0
ReadsBack = (s : Sheet) → Legal s → checked (written s) ≡ Ok s

-- bytes are one legal sheet at most
abbrev pub OneSheet : Type 0
OneSheet = (s t : Sheet) → Legal s → Legal t → written s ≡ written t → s ≡ t

-- what an answer says of the bytes: those of a sheet are the writing of a legal one, and that one is answered; no others are
abbrev pub Tells : Result Sheet Refusal → List ℕ → Type 0
Tells (Ok s) bs = Legal s × (written s ≡ bs)
Tells (Err f) bs = (s : Sheet) → Legal s → written s ≢ bs

-- the bytes are not too many, and the first line has its form
pub record Headed (bs : List ℕ) : Type 0 where
  pub short : length bs ≤ most_bytes
  pub kind : Kind
  pub allowance : ℕ
  pub rest : List ℕ
  pub next : ℕ
  pub first : heading bs 1 ≡ got (kind, allowance) rest next
