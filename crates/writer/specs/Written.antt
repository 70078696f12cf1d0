-- What a writer has taken. Assumes nothing.
use Rattle.std.specs.Result.{is_err}
use Rattle.std.specs.Prelude.{◌≡◌, ℕ, ◌+◌, ◌<◌, ◌≤◌, Bool, true, false, cond, List, [], ◌++◌, length, Ok, Err, vec_items, vec_len, vec_capacity, Result}
use Rattle.fault.specs.Refusals.{Refusal, refused}
use Rattle.writer.specs.declared.values.Writer.{Writer}

-- bytes found no room, and what was written since is lost
abbrev pub full : Writer → Bool
full w = is_err w.status

-- nothing is written yet, and there is room for `room` bytes
pub record Blank (room : ℕ) (w : Writer) : Type 0 where
  pub bytes : vec_items w.bytes ≡ []
  pub fits : room ≤ vec_capacity w.bytes
  pub ready : full w ≡ false

-- `new` is `old` after the text t, which is all there unless it found no room; and room that there is stays
pub record Wrote (old : Writer) (t : List ℕ) (new : Writer) : Type 0 where
  pub kept : full new ≡ false → (full old ≡ false) × (vec_items new.bytes ≡ vec_items old.bytes ++ t)
  pub lacked : full new ≡ true → full old ≡ false → vec_capacity old.bytes < vec_len old.bytes + length t
  pub room : vec_capacity old.bytes ≤ vec_capacity new.bytes

-- the text, or that there was no memory for it
abbrev pub finished : Writer → Result (List ℕ) Refusal
finished w = cond (full w) (Err (refused 0 0 0)) (Ok (vec_items w.bytes))
