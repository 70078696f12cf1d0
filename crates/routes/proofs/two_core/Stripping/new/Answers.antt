use Rattle.std.proofs.Common.{◌≡◌, ℕ, sym, replicate, subst, arith}
use Rattle.matroid.specs.Questions.{marked}
use Rattle.kinds.specs.Lists.{all_places}
use Rattle.routes.specs.Cores.{Tallied, Attached}
use Rattle.routes.proofs.Incidences.{tallied_none, room_attach, room_again, untouched}
use Rattle.routes.proofs.Numbered.{begun, walked, below, from_here, tallied_in, tallied_out, places_more}
use Rattle.routes.proofs.two_core.Stripping.new.Goals as goal

pub loop-k-init : goal.loop-k-init
loop-k-init c =
    let whole = c.into_iter-k-iterator.ensures.into_iter_gives in
    let pairs = c.zip-k-items.ensures.first in
    let marks = c.zip-k-items.ensures.second.0 in
    let numbers = c.zip.ensures.first in
    let routes = c.zip.ensures.second.0 in
    let zero : c.into_iter-k-iterator.result.a.a.start ≡ 0 = grind arith in
    record {
      can = ((tt, tt), tt);
      finite = tt;
      walk = begun zero (grind arith) (cc) (cc);
      tallied = subst (λ (n : ℕ). Tallied n c.args.routes.now (marked c.args.marks.now) (replicate all_places untouched)) (sym zero) (tallied_none c.args.routes.now (marked c.args.marks.now));
      places = record { froms = λ i l. absurd (omega arith); tos = λ i l. absurd (omega arith) };
    }

pub attach-requires : goal.attach-requires
attach-requires c =
    let so_far = c.loop-k.invariant in
    let s = c.in-Some.ensures.steps in
    let l = below so_far.walk s in
    let f = from_here so_far.walk s in
    room_attach c.loop-k.k-iterator.a.a.start c.args.routes.now (marked c.args.marks.now) c.loop-k.places (omega arith) so_far.tallied c.in-Some.route.now.from (omega arith)

pub attach-requires-then-marked : goal.attach-requires-then-marked
attach-requires-then-marked c =
    let so_far = c.loop-k.invariant in
    let s = c.in-Some.ensures.steps in
    let l = below so_far.walk s in
    let x = c.loop-k.k-iterator.a.a.start in
    room_again x c.in-Some.route.now.from c.args.routes.now (marked c.args.marks.now) c.loop-k.places c.attach.new.places (omega arith) so_far.tallied
    (subst (λ (n : ℕ). Attached c.in-Some.route.now.from n c.loop-k.places c.attach.new.places) s.0.0.1.1 c.attach.ensures) c.in-Some.route.now.to (omega arith)

pub loop-k-preserved-then-marked : goal.loop-k-preserved-then-marked
loop-k-preserved-then-marked c =
    let so_far = c.loop-k.invariant in
    let s = c.in-Some.ensures.steps in
    record {
      can = ((tt, tt), tt);
      finite = tt;
      walk = walked so_far.walk s;
      tallied = tallied_in so_far.walk s c.if-marked.true so_far.tallied c.attach.ensures c.attach-then-marked.ensures;
      places = places_more so_far.walk s (omega arith) (omega arith) so_far.places;
    }

pub loop-k-preserved : goal.loop-k-preserved
loop-k-preserved c =
    let so_far = c.loop-k.invariant in
    let s = c.in-Some.ensures.steps in
    record {
      can = ((tt, tt), tt);
      finite = tt;
      walk = walked so_far.walk s;
      tallied = tallied_out so_far.walk s c.if-marked.false so_far.tallied;
      places = places_more so_far.walk s (omega arith) (omega arith) so_far.places;
    }
