use Rattle.std.proofs.Common.{ℕ, ◌<◌}
use Rattle.matroid.specs.Questions.{marked}
use Rattle.kinds.specs.Lists.{all_places, at}
use Rattle.lots.specs.Counts.{Counted}
use Rattle.lots.proofs.Walks.{Walk, passed}
use Rattle.lots.proofs.Lots.counts_of.Given as goal

abbrev pub invariant-loop-lot : goal.invariant-loop-lot
invariant-loop-lot l =
    let lots = l.self.lots.list.items in
    let i = passed lots l.lot-iterator.a.rest.now in
    record {
      can : (goal.iterator-loop-lot).can_next l.lot-iterator;
      finite : (goal.iterator-loop-lot).is_finite l.lot-iterator;
      walk : Walk lots l.set l.lot-iterator.a.rest.now l.lot-iterator.b.rest.now;
      counted : Counted i lots (marked l.set) l.counts;
      places : (k : ℕ) → k < i → at lots k < all_places;
    }
