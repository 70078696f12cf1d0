use Rattle.std.proofs.Common.{◌≡◌, ℕ, ◌<◌, false, cond, eqb, length, set, sym, ap, ◌∙◌, subst, arith}
use Rattle.element.specs.Marks.{all_marks}
use Rattle.matroid.specs.Questions.{marked}
use Rattle.kinds.specs.Lists.{from, to, all_places}
use Rattle.routes.specs.Cores.{LeafStripped}
use Rattle.routes.proofs.LeafSteps.{leaf_step}
use Rattle.routes.proofs.two_core.Stripping.strip_leaf.Goals as goal

pub returns-clause-stripped : goal.returns-clause-stripped
returns-clause-stripped c =
    let m : c.args.leaf < all_places = omega arith in
    let k : length c.args.self.now.left ≡ all_marks = omega arith in
    subst (λ (t : ℕ). LeafStripped c.args.self.now.routes.now c.args.leaf c.other_end.result (marked c.args.self.now.left) (marked (set c.args.self.now.left t false)))
    (sym c.from-2.ensures)
    (leaf_step c.args.self.now.routes.now c.args.self.now.left c.args.self.now.places c.args.leaf c.route_at-k.result c.other_end.result
    c.args.self.now.few k m c.args.self.now.tallied c.requires c.route_at-k.ensures
    (c.other_end.ensures ∙ ap (λ (t : ℕ). cond (eqb (from c.args.self.now.routes.now t) c.args.leaf) (to c.args.self.now.routes.now t) (from c.args.self.now.routes.now t)) c.from.ensures))
