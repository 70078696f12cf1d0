use Rattle.std.proofs.Common.{Ok, refl, sym, ap, ◌∙◌, subst, inl, inr, Bool, arith}
use Rattle.std.specs.Bool.{then_some}
use Rattle.std.proofs.lemmas.Bool.{cases_Bool}
use Rattle.kinds.specs.Lists.{routes_of}
use Rattle.matroid.specs.Outcomes.{OutcomeOf}
use Rattle.matroid.specs.Questions.{marked}
use Rattle.routes.proofs.RouteOutcomes.{left_dependent, empty_outcome, left_outcome}
use Rattle.routes.proofs.Routes.outcome.Goals as goal

pub returns-then-any_marked : goal.returns-then-any_marked
returns-then-any_marked c = (
  refl,
  left_dependent c.args.self.now.routes.list.items c.core_of.ensures.ends (marked c.args.set.now) c.core_of.result c.core_of.ensures.core
      (c.any_marked.ensures.some c.if-any_marked.true),
)

pub returns : goal.returns
returns c =
    let few = c.args.self.now.routes.few in
    let items = c.args.self.now.routes.list.items in
    elim (cases_Bool c.any_marked-2.result) [
      | inl t ↦ subst (OutcomeOf (routes_of items) (marked c.args.set.now) c.args.element) (ap Ok (sym (c.then_some.ensures ∙ ap (λ (b : Bool). then_some b c.core_of-left.result) t)))
          (left_outcome items c.core_of.ensures.ends c.args.set.now c.core_of.result c.core_of.ensures.core
          (c.any_marked.ensures.none c.if-any_marked.false) c.args.element c.from.result c.from.ensures c.requires (omega arith) c.core_of-left.result c.core_of-left.ensures.core
          (c.any_marked-2.ensures.some t))
      | inr f ↦ subst (OutcomeOf (routes_of items) (marked c.args.set.now) c.args.element) (ap Ok (sym (c.then_some.ensures ∙ ap (λ (b : Bool). then_some b c.core_of-left.result) f)))
          (empty_outcome items c.core_of.ensures.ends c.args.set.now c.core_of.result c.core_of.ensures.core
          (c.any_marked.ensures.none c.if-any_marked.false) c.args.element c.from.result c.from.ensures c.requires (omega arith) c.core_of-left.result c.core_of-left.ensures.core
          (c.any_marked-2.ensures.none f))
    ]
