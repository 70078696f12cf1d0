use Rattle.std.proofs.Common.{sym, ap, ◌∙◌}
use Rattle.matroid.specs.Questions.{Reply}
use Rattle.matroid.proofs.Replies.{admits, concluded_questioned}
use Rattle.kinds.specs.Lists.{lots_of}
use Rattle.lots.proofs.LotsMatroid.circuit.Goals as goal

pub outcome-requires-clause-outside : goal.outcome-requires-clause-outside
outcome-requires-clause-outside c =
    let a = admits c.size-n.result c.args.set.now c.args.element c.args.marks.now c.in_ok-members.members (sym c.in_ok-members.ensures) in
    a.outside

pub returns-clause-marks : goal.returns-clause-marks
returns-clause-marks c =
    c.conclude.ensures.marks ∙ ap (λ (r : Reply). r.marks)
    (concluded_questioned (lots_of c.args.self.now.lots.list.items c.args.self.now.caps.items) c.size-n.result c.args.set.now c.args.element
    c.args.marks.now c.in_ok-members.members c.outcome.result c.size-n.ensures c.in_ok-members.ensures c.outcome.ensures)
