-- Leaves are stripped one after the other.
use Rattle.std.proofs.Common.{◌≡◌, ℕ, ◌+◌, ◌<◌, List, length, subst}
use Rattle.matroid.specs.Sets.{Elements}
use Rattle.kinds.specs.declared.Route.{Route}
use Rattle.kinds.specs.Kinds.{touches}
use Rattle.kinds.specs.Lists.{from, to}
use Rattle.routes.specs.Cores.{Strips, LeafStripped}

pub strips_more : (rs : List Route) (R T U : Elements) → Strips rs R T → Strips rs T U → Strips rs R U
strips_more rs R T U p q = record {
  inside = λ i l h. p.inside i l (q.inside i l h);
  even_parts = λ P t. q.even_parts P (record {
    some = record { member = t.some.member; below = t.some.below; has = t.some.has; inside = p.even_parts P t };
    twice = t.twice;
  });
}

-- the same, where the routes of the second step are called by another name
pub strips_on : (rs own : List Route) (S R T : Elements) → own ≡ rs → Strips rs S R → Strips own R T → Strips rs S T
strips_on rs own S R T e p q = strips_more rs S R T p (subst (λ (x : List Route). Strips x R T) e q)

-- stripping began at the place start with the set S, and has come to the place p with R
pub record StrippingFrom (rs : List Route) (start p : ℕ) (S R : Elements) : Type 0 where
  pub strips : Strips rs S R
  pub settled : (c : ℕ) → c < start + 1 → (c ≡ p → ⊥) → touches (length rs) (from rs) (to rs) R c ≡ 1 → ⊥

pub stripping_steps : (rs : List Route) (start p q : ℕ) (S R T : Elements) → StrippingFrom rs start p S R → LeafStripped rs p q R T → StrippingFrom rs start q S T
stripping_steps rs start p q S R T h s = record {
  strips = strips_more rs S R T h.strips s.strips;
  settled = λ c l e o. let (a, b) = s.settled c e o in h.settled c l a b;
}
