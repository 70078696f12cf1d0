use Rattle.std.proofs.Common.{ap, ◌∙◌}
use Rattle.matroid.specs.Questions.{Reply}
use Rattle.matroid.proofs.Replies.{concluded_questioned}
use Rattle.kinds.specs.Lists.{routes_of}
use Rattle.routes.proofs.RoutesMatroid.circuit.Goals as goal

pub returns-clause-marks : goal.returns-clause-marks
returns-clause-marks c =
    c.conclude.ensures.marks ∙ ap (λ (r : Reply). r.marks)
    (concluded_questioned (routes_of c.args.self.now.routes.list.items) c.size-n.result c.args.set.now c.args.element
    c.args.marks.now c.in_ok-members.members c.outcome.result c.size-n.ensures c.in_ok-members.ensures c.outcome.ensures)
