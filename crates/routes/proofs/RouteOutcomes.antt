-- The outcome from the cores.
use Rattle.std.proofs.Common.{◌≡◌, ℕ, ◌<◌, Bool, true, false, List, length, Some, None, Ok, set, sym, ◌∙◌, subst, arith}
use Rattle.matroid.specs.Sets.{Elements, with}
use Rattle.matroid.specs.Questions.{marked}
use Rattle.matroid.specs.Outcomes.{OutcomeOf}
use Rattle.matroid.proofs.Marks.{marked_set}
use Rattle.kinds.specs.declared.Route.{Route}
use Rattle.kinds.specs.Lists.{all_places, from, to, routes_of}
use Rattle.kinds.proofs.Routes.{even_part_more}
use Rattle.routes.specs.Cores.{EndsArePlaces, CoreOf}
use Rattle.routes.proofs.Cores.{core_none, core_some, core_circuit}

-- the core of the marks with one more is that of the set with one more
core_with : (rs : List Route) (marks : List Bool) (e : ℕ) (R : Elements) → e < length marks → CoreOf rs (marked (set marks e true)) R
    → CoreOf rs (with (marked marks) e) R
core_with rs marks e R h k = record {
  inside = λ i b r. sym (marked_set marks e h i) ∙ k.inside i b r;
  no_leaf = k.no_leaf;
  even_parts = λ P t. k.even_parts P
      (even_part_more (length rs) all_places (from rs) (to rs) (with (marked marks) e) (marked (set marks e true)) P (λ i b p. marked_set marks e h i ∙ p) t);
}

-- of marks, whether there is one of a route
abbrev pub SomeRoute : List Route → List Bool → Type 0
SomeRoute rs marks = (i : ℕ) × ((i < length rs) × (marked marks i ≡ true))

abbrev pub NoRoute : List Route → List Bool → Type 0
NoRoute rs marks = (i : ℕ) → i < length rs → marked marks i ≡ false

module _ (rs : List Route) (ends : EndsArePlaces (length rs) rs) where
  -- nothing is left
  pub empty_independent : (S : Elements) (core : List Bool) → CoreOf rs S (marked core) → NoRoute rs core → (routes_of rs).independent S ≡ true
  empty_independent S core k h = core_none (length rs) all_places (from rs) (to rs) ends.froms ends.tos S (marked core) k h

  -- something is left
  pub left_dependent : (S : Elements) (core : List Bool) → CoreOf rs S (marked core) → SomeRoute rs core → (routes_of rs).independent S ≡ false
  left_dependent S core k (i, (l, h)) = core_some (length rs) all_places (from rs) (to rs) ends.froms ends.tos S (marked core) k i l h

  -- x is e again
  module _ (marks core : List Bool) (alone : CoreOf rs (marked marks) (marked core)) (empty : NoRoute rs core) (e x : ℕ) (same : x ≡ e)
      (below : e < length rs) (long : length rs < length marks) (left : List Bool) (both : CoreOf rs (marked (set marks x true)) (marked left)) where
    joint : CoreOf rs (with (marked marks) e) (marked left)
    joint = core_with rs marks e (marked left) (omega arith) (subst (λ (y : ℕ). CoreOf rs (marked (set marks y true)) (marked left)) same both)

    pub empty_outcome : NoRoute rs left → OutcomeOf (routes_of rs) (marked marks) e (Ok None)
    empty_outcome h = (empty_independent (marked marks) core alone empty, empty_independent (with (marked marks) e) left joint h)

    pub left_outcome : SomeRoute rs left → OutcomeOf (routes_of rs) (marked marks) e (Ok (Some left))
    left_outcome (i, (l, h)) = (
      empty_independent (marked marks) core alone empty,
      left_dependent (with (marked marks) e) left joint (i, (l, h)),
      core_circuit (length rs) all_places (from rs) (to rs) ends.froms ends.tos (marked marks) e (marked left) below
          (empty_independent (marked marks) core alone empty) joint i l h,
    )
