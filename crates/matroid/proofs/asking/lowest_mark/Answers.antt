use Rattle.std.proofs.Common.{◌<◌, Bool, ◌&&◌, length, ap, ◌∙◌, inl, inr, arith}
use Rattle.std.proofs.lemmas.Bool.{lt-leb}
use Rattle.matroid.specs.Questions.{marked}
use Rattle.matroid.proofs.Marks.{found_next, none_next, next_none}
use Rattle.matroid.proofs.asking.lowest_mark.Goals as goal

pub returns-in_err-get : goal.returns-in_err-get
returns-in_err-get c =
    let beyond : length c.args.marks.now < c.args.from = elim c.in_err-get.ensures.lookup.0 [ inl l ↦ l | inr l ↦ absurd (omega arith) ] in
    c.from_residual.ensures
    ∙ next_none c.args.from c.args.marks.now c.args.from (λ k l. ap (λ (b : Bool). b && marked c.args.marks.now k) (lt-leb c.args.from k l)) (omega arith)

pub returns-in_err-first : goal.returns-in_err-first
returns-in_err-first c =
    let (_, _, part, long) = c.in_ok-get.ensures.lookup.0 in
    c.from_residual-in_err-first.ensures ∙ none_next c.args.from c.args.marks.now c.in_ok-get.field-0.now part long c.in_err-first.ensures

pub returns : goal.returns
returns c =
    let (_, _, part, long) = c.in_ok-get.ensures.lookup.0 in
    found_next c.args.from c.args.marks.now c.in_ok-get.field-0.now part long c.in_ok-first.first c.in_ok-first.ensures
