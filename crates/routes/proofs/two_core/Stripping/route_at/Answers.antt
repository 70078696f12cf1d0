use Rattle.std.proofs.Common.{◌≡◌, ℕ, ◌<◌, length, sym, ap, subst, arith}
use Rattle.element.specs.Marks.{all_marks}
use Rattle.kinds.specs.Lists.{all_places}
use Rattle.routes.specs.Cores.{numbers, Leaf}
use Rattle.routes.proofs.LeafSteps.{leaf_found}
use Rattle.routes.proofs.two_core.Stripping.route_at.Goals as goal

pub overflow_cast-result : goal.overflow_cast-result
overflow_cast-result c =
    let m : c.args.leaf < all_places = omega arith in
    let k : length c.args.self.now.left ≡ all_marks = omega arith in
    let few = c.args.self.now.few in
    let f = leaf_found c.args.self.now.routes.now c.args.self.now.left c.args.self.now.places c.args.leaf few k m c.args.self.now.tallied c.requires in
    let b = f.below in
    let e = ap (numbers c.args.self.now.places) c.from.ensures in
    omega arith

pub returns : goal.returns
returns c =
    let m : c.args.leaf < all_places = omega arith in
    let k : length c.args.self.now.left ≡ all_marks = omega arith in
    subst (λ (t : ℕ). Leaf c.args.self.now.routes.now c.args.self.now.left c.args.self.now.places c.args.leaf t) (sym (ap (numbers c.args.self.now.places) c.from.ensures))
    (leaf_found c.args.self.now.routes.now c.args.self.now.left c.args.self.now.places c.args.leaf c.args.self.now.few k m c.args.self.now.tallied c.requires)
