-- What a fault is shown as. Assumes nothing.
use Rattle.std.specs.Prelude.{ℕ, List, ◌++◌, codes, decimal}
use Rattle.fault.specs.declared.Fault.{Fault}
use Rattle.fault.specs.Refusals.{refusal}

-- its number, its place and its depth
abbrev pub sentence : Fault → List ℕ
sentence f =
    codes "refusal " ++ (decimal (refusal f).number ++ (codes " at place " ++ (decimal (refusal f).place ++ (codes ", depth " ++ decimal (refusal f).depth))))
