use Rattle.std.proofs.Common.{ℕ, Bool, false, List, replicate, Ok, sym, ap, ◌∙◌, arith}
use mathlib.Core.Path.{fun_ext}
use lib.ListN.{length-replicate}
use Rattle.element.specs.Marks.{all_marks}
use Rattle.matroid.specs.Matroids.{Meaning}
use Rattle.matroid.specs.Questions.{marked}
use Rattle.matroid.proofs.Asked.{Askable as Asked, asked_answers, asked_independent, asked_circuit}
use Rattle.walk.specs.Walked.{Askable}
use Rattle.walk.proofs.progress.closed_if_asked.Goals as goal

asked : (m : Meaning) (members : List Bool) (e : ℕ) → Askable m (marked members) e → Asked m e members
asked m members e a = record { admitted = record { below = a.below; outside = a.outside; above = a.above }; independent = a.independent }

pub returns-in-Err : goal.returns-in-Err
returns-in-Err g c = λ a.
    absurd (asked_answers _ c.args.e c.args.kept.now (replicate all_marks false) c.told-kept (length-replicate all_marks false) (asked _ _ _ a) _
    c.in-Err.ensures.answer)

pub returns-in-Ok-Independent : goal.returns-in-Ok-Independent
returns-in-Ok-Independent g c = λ a.
    asked_independent _ c.args.e c.args.kept.now (replicate all_marks false) c.told-kept (length-replicate all_marks false) (asked _ _ _ a)
    (sym (ap Ok c.in-Ok-Independent.field-0-is) ∙ c.in-Ok-Independent.ensures.answer)

pub returns-in-Ok-Circuit : goal.returns-in-Ok-Circuit
returns-in-Ok-Circuit g c = λ a.
    let r = asked_circuit _ c.args.e c.args.kept.now (replicate all_marks false) c.told-kept (length-replicate all_marks false) (asked _ _ _ a)
    (omega arith) (sym (ap Ok c.in-Ok-Circuit.field-0-is) ∙ c.in-Ok-Circuit.ensures.answer) c.circuit.new.marks c.in-Ok-Circuit.ensures.marks in
    (r.0, fun_ext r.1)
