use Rattle.std.proofs.Common.{◌≡◌, ◌<◌, length}
use Rattle.matroid.specs.Sets.{count}
use Rattle.matroid.specs.Questions.{marked}
use Rattle.kinds.specs.Lists.{all_places}
use Rattle.routes.proofs.Stripping.{StrippingFrom}
use Rattle.routes.proofs.two_core.Stripping.strip_from.Given as goal

abbrev pub invariant-loop-self : goal.invariant-loop-self
invariant-loop-self l =
    (l.place < all_places) × (l.self.routes.now ≡ l.initial.self.routes.now) × StrippingFrom l.initial.self.routes.now l.start l.place (marked l.initial.self.left) (marked l.self.left)

abbrev pub decreases-loop-self : goal.decreases-loop-self
decreases-loop-self l = count (length l.self.routes.now) (marked l.self.left)
