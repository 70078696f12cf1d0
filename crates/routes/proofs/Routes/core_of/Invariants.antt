use Rattle.std.proofs.Common.{◌≡◌}
use Rattle.matroid.specs.Questions.{marked}
use Rattle.routes.specs.Cores.{Strips, NoLeafBelow}
use Rattle.routes.proofs.Routes.core_of.Given as goal

abbrev pub invariant-loop-place : goal.invariant-loop-place
invariant-loop-place l =
    (l.stripping.routes.now ≡ l.self.routes.list.items) × Strips l.self.routes.list.items (marked l.marks) (marked l.stripping.left)
    × NoLeafBelow l.self.routes.list.items (marked l.stripping.left) l.place
