use Rattle.std.proofs.Common.{List, ◌∙◌, subst}
use Rattle.matroid.specs.Questions.{marked}
use Rattle.kinds.specs.declared.Route.{Route}
use Rattle.routes.specs.Cores.{LeafStripped}
use Rattle.routes.proofs.Stripping.{stripping_steps}
use Rattle.routes.proofs.two_core.Stripping.strip_from.Goals as goal

pub loop-self-preserved : goal.loop-self-preserved
loop-self-preserved c =
    let (_, same, reached) = c.loop-self.invariant in (
      c.strip_leaf-place.type_inv,
      c.strip_leaf-place.ensures.same ∙ same,
      stripping_steps c.args.self.now.routes.now c.args.start c.loop-self.place c.strip_leaf-place.result (marked c.args.self.now.left) (marked c.loop-self.self.left)
          (marked c.strip_leaf-place.new.self.left) reached
          (subst (λ (rs : List Route). LeafStripped rs c.loop-self.place c.strip_leaf-place.result (marked c.loop-self.self.left) (marked c.strip_leaf-place.new.self.left))
          same c.strip_leaf-place.ensures.stripped),
    )
