use Rattle.std.proofs.Common.{None, false, ap, arith}
use Rattle.std.proofs.lemmas.List.{get_or-replicate, length-replicate}
use Rattle.element.specs.Marks.{all_marks}
use Rattle.words.specs.declared.elimination.Row.{Row}
use Rattle.words.proofs.Words.table.Goals as goal

pub loop-i-init : goal.loop-i-init
loop-i-init c =
    let none : Row = record { word = 0; pivot = None } in
    (λ k l. absurd (omega arith), λ k l. ap (λ (r : Row). r.pivot) (get_or-replicate all_marks k none none l), length-replicate all_marks none)

pub returns-clause-free : goal.returns-clause-free
returns-clause-free c x l = get_or-replicate 64 x false false l
