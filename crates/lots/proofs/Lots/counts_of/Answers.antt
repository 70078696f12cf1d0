use Rattle.std.proofs.Common.{◌≡◌, ℕ, replicate, sym, subst, arith}
use Rattle.matroid.specs.Questions.{marked}
use Rattle.kinds.specs.Lists.{all_places}
use Rattle.lots.specs.Counts.{Counted}
use Rattle.lots.proofs.LotCounts.{counted_none, counted_few}
use Rattle.lots.proofs.Walks.{passed, none_passed, begun, below, walked, counted_in, counted_out, places_more}
use Rattle.lots.proofs.Lots.counts_of.Goals as goal

pub loop-lot-init : goal.loop-lot-init
loop-lot-init c =
    let lots = c.args.self.now.lots.list.items in
    let whole = c.into_iter-lot-iterator.ensures.into_iter_gives in
    let first = c.zip-lot-items.ensures.first in
    let second = c.zip-lot-items.ensures.second.0 in
    let items = c.iter.ensures.rest in
    let same = c.as_slice.ensures in
    let left : c.into_iter-lot-iterator.result.a.rest.now ≡ lots = cc in
    record {
      can = (tt, tt);
      finite = tt;
      walk = begun left (cc);
      counted = subst (λ (n : ℕ). Counted n lots (marked c.args.set.now) (replicate all_places 0)) (sym (none_passed left)) (counted_none lots (marked c.args.set.now));
      places = λ k l. let z = none_passed left in absurd (omega arith);
    }

pub add_to-requires : goal.add_to-requires
add_to-requires c =
    let so_far = c.loop-lot.invariant in
    let few = c.args.self.now.lots.few in
    let l = below so_far.walk c.in-Some.ensures.steps in
    counted_few (passed c.args.self.now.lots.list.items c.loop-lot.lot-iterator.a.rest.now) c.args.self.now.lots.list.items (marked c.args.set.now) c.loop-lot.counts (omega arith)
    so_far.counted c.in-Some.lot.now (omega arith)

pub loop-lot-preserved-then-member : goal.loop-lot-preserved-then-member
loop-lot-preserved-then-member c =
    let so_far = c.loop-lot.invariant in
    let step = c.in-Some.ensures.steps in
    record {
      can = (tt, tt);
      finite = tt;
      walk = walked so_far.walk step;
      counted = counted_in so_far.walk step c.if-member.true so_far.counted c.add_to.ensures;
      places = places_more so_far.walk step (omega arith) so_far.places;
    }

pub loop-lot-preserved : goal.loop-lot-preserved
loop-lot-preserved c =
    let so_far = c.loop-lot.invariant in
    let step = c.in-Some.ensures.steps in
    record {
      can = (tt, tt);
      finite = tt;
      walk = walked so_far.walk step;
      counted = counted_out so_far.walk step c.loop-lot.counts c.if-member.false so_far.counted;
      places = places_more so_far.walk step (omega arith) so_far.places;
    }
