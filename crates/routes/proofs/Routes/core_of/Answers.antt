use Rattle.std.proofs.Common.{◌≡◌, ◌+◌, List, ◌∙◌, sym, subst, arith}
use Rattle.matroid.specs.Questions.{marked}
use Rattle.kinds.specs.declared.Route.{Route}
use Rattle.routes.specs.declared.two_core.Stripping.{Stripping}
use Rattle.routes.specs.Cores.{NoLeafBelow, CoreOf}
use Rattle.routes.proofs.Stripping.{strips_on}
use Rattle.routes.proofs.Routes.core_of.Goals as goal
use Rattle.routes.proofs.Routes.core_of.Goals.{else-loop-place-test, then-loop-place-test+else-place-lt255}

pub loop-place-preserved : goal.loop-place-preserved
loop-place-preserved c =
    let (same, strips, _) = c.loop-place.invariant in (
      c.strip_from.ensures.same ∙ same,
      strips_on c.args.self.now.routes.list.items _ (marked c.args.marks.now) _ (marked c.strip_from.new.self.left) same strips c.strip_from.ensures.strips,
      subst (λ (rs : List Route). NoLeafBelow rs (marked c.strip_from.new.self.left) (c.loop-place.place + 1)) same c.strip_from.ensures.before,
    )

pub returns-clause-core : goal.returns-clause-core
returns-clause-core c =
    elim c.loop-place-test.branch [
      | else-loop-place-test w ↦ let t = w.loop-place-test.false in absurd (omega arith)
      | then-loop-place-test+else-place-lt255 w ↦
          let last : c.loop-place.place ≡ 255 = omega arith in
          let (same, strips, _) = c.loop-place.invariant in
          let stripped = strips_on c.args.self.now.routes.list.items _ (marked c.args.marks.now) _ (marked w.strip_from.new.self.left) same strips w.strip_from.ensures.strips in
          let leaves = subst (λ (rs : List Route). NoLeafBelow rs (marked w.strip_from.new.self.left) (c.loop-place.place + 1)) same w.strip_from.ensures.before in
          subst (λ (s : Stripping). CoreOf c.args.self.now.routes.list.items (marked c.args.marks.now) (marked s.left)) (sym w.stripping-is)
          (record { inside = stripped.inside; no_leaf = λ k l. leaves k (omega arith); even_parts = stripped.even_parts })
    ]
