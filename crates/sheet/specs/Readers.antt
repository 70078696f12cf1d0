-- What the code's reader does, in the words of the form. Assumes nothing.
use Rattle.std.specs.Prelude.{◌≡◌, ℕ, ◌+◌, ◌<◌, ◌≤◌, false, cond, List, [], length, Some, None, Ok, Err, vec_items, vec_capacity, MatchBool, ◌⊎◌, Option, Result, ◌==◌, nat_eq}
use Rattle.std.specs.Borrow.{Bor}
use Rattle.fault.specs.declared.Fault.{Fault}
use Rattle.fault.specs.declared.Fault.TheVariants.{Malformed}
use Rattle.fault.specs.Refusals.{refusal}
use Rattle.entry.specs.Entries.{Entry, Known, Range}
use Rattle.form.specs.Reading.{Got, got, stop, Step, ◌>>=◌, done, cut, Tail, checked}
use Rattle.form.specs.Theorem.{Headed}
use Rattle.sheet.specs.declared.reader.Reader.{Reader}
use Rattle.sheet.specs.declared.values.Body.{Body}
use Rattle.sheet.specs.Code.{HeldSheet, sheet_of}
use Rattle.sheet.specs.declared.reader.RawEntry.{RawEntry}
use Rattle.sheet.specs.declared.reader.RawEntry.TheVariants.{Known as RawKnown, Range as RawRange}

-- the bytes that are left
abbrev pub left : Reader → List ℕ
left r = r.rest.now

-- falls with each field, and never rises: so the line's number fits
abbrev pub room : Reader → ℕ
room r = r.line + length (left r)

-- r is the field before the first byte c, and the reader goes on after that byte
abbrev pub Cut : Option (Bor (List ℕ)) → ℕ → Reader → Reader → Type 0
Cut (Some w) c old new = (cut c (left old) ≡ Some (w.now, left new)) × (new.line ≡ old.line) × (length (left new) < length (left old))
Cut None c old new = (cut c (left old) ≡ None) × (new.line ≡ old.line)

-- the fault is the refusal that a step stopped with, and no want of memory
pub record Stops {A : Type 0} (g : Got A) (f : Fault) : Type 0 where
  pub with : g ≡ stop (refusal f).number (refusal f).place
  pub flat : (refusal f).depth ≡ 0
  pub fed : nat_eq (refusal f).number 0 ≡ false

-- r is what the step s gets at the reader, which then stands after it; or it is the step's refusal
abbrev pub Reads : {X A : Type 0} → (X → A) → Step A → Reader → Result X Fault → Reader → Type 0
Reads value s old (Ok x) new = s (left old) old.line ≡ got (value x) (left new) new.line
Reads value s old (Err f) new = Stops (s (left old) old.line) f

-- r is what `post` allows of the field before the first byte c; or a refusal, where no byte is c or `post` allows none of it
abbrev pub Fielded : {V : Type 0} → (Bor (List ℕ) → Option V → Type 0) → ℕ → Reader → Result V Fault → Reader → Type 0
Fielded {V} post c old (Ok v) new = (w : Bor (List ℕ)) × Cut (Some w) c old new × post w (Some v)
Fielded {V} post c old (Err f) new = (f ≡ Malformed old.line) × ((cut c (left old) ≡ None) ⊎ ((w : Bor (List ℕ)) × Cut (Some w) c old new × post w None))

-- an entry as it is written
abbrev pub raw_of : RawEntry → Entry
raw_of (RawKnown p) = Known p
raw_of (RawRange low high) = Range low high

-- the line before, as the form sees it
abbrev pub before_of : {X A : Type 0} → (X → A) → Option (Bor X) → Option A
before_of value None = None
before_of value (Some x) = Some (value x.now)

-- what the fields of a tail name, or none where they name nothing
abbrev pub seen : {T : Type 0} → Tail T → ℕ → Step (Option T)
seen tail n = tail.fields n >>= λ t. done (cond (tail.names n t) (Some t) None)

-- a body without lines, with room for `most` lines in each section
pub record Empty {P T : Type 0} (most : ℕ) (b : Body P T) : Type 0 where
  pub places : vec_items b.places ≡ []
  pub elements : vec_items b.elements ≡ []
  pub recorded : vec_items b.recorded ≡ []
  pub places_room : most ≤ vec_capacity b.places
  pub elements_room : most ≤ vec_capacity b.elements
  pub recorded_room : most ≤ vec_capacity b.recorded

-- the answer to the bytes bs: the sheet or the refusal, or no memory, which is only wanted after a first line that has its form
abbrev pub Checks : Result HeldSheet Fault → List ℕ → Type 0
Checks (Ok s) bs = checked bs ≡ Ok (sheet_of s)
Checks (Err f) bs = MatchBool ((refusal f).number == 0) (Headed bs) (checked bs ≡ Err (refusal f))
