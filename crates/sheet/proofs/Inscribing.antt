-- What is written of entries, words and sections. Assumes nothing.
use Rattle.std.proofs.Common.{◌≡◌, ℕ, false, List, [], ◌∷◌, ◌++◌, map, IfOk, Ok, Err, vec_items, decimal, Result, Vec, refl, ap, ◌∙◌}
use Rattle.std.specs.declared.alloc.Global.{Global}
use Rattle.fault.specs.declared.Fault.{Fault}
use Rattle.fault.specs.Refusals.{starved, told}
use Rattle.form.specs.Sheets.{Sheet, Legal, written, bit_letter}
use Rattle.form.specs.Reading.{checked}
use Rattle.form.proofs.Whole.{reads_back}
use Rattle.writer.specs.declared.values.Writer.{Writer}
use Rattle.writer.specs.Written.{Wrote}
use Rattle.writer.proofs.Writing.{wrote_as}
use Rattle.sheet.specs.Code.{bit_of, ones}

-- a number that was put as the value that it becomes
pub wrote_number : {old new : Writer} {n : ℕ} (end : ℕ) → (d : ℕ) × (d ≡ n) × Wrote old (decimal d ++ (end ∷ [])) new → Wrote old (decimal n ++ (end ∷ [])) new
wrote_number {old} {new} {n} end w = wrote_as (ap (λ d. decimal d ++ (end ∷ [])) w.1) w.2

pub letters : (w : List ℕ) → map bit_of w ≡ map bit_letter (ones w)
letters [] = refl
letters (b ∷ bs) = ap (λ x. bit_of b ∷ x) (letters bs)

-- what is written of a legal sheet is read back
pub back_of : (s : Sheet) (r : Result (Vec ℕ Global) Fault) → (starved r ≡ false → told vec_items r ≡ Ok (written s)) → Legal s → IfOk r (λ v. checked (vec_items v) ≡ Ok s)
back_of s (Ok v) w l =
    let e : vec_items v ≡ written s = cc (w refl) in
    ap checked e ∙ reads_back s l
back_of s (Err f) w l = tt
