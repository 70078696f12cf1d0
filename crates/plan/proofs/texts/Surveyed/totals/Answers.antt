use Rattle.std.proofs.Common.{ap, arith}
use Rattle.entry.specs.Entries.{high, low}
use Rattle.survey.specs.States.{state}
use Rattle.plan.proofs.Keeping.{sum_in, sum_out, walked}
use Rattle.plan.proofs.texts.Surveyed.totals.Goals as goal

pub loop-i-preserved-then-kept : goal.loop-i-preserved-then-kept
loop-i-preserved-then-kept g c =
    let step = c.in-Some.ensures.steps in
    let so_far = c.loop-i.invariant in
    let E = (state c.args.self.now.survey.now.tables).entries in
    let lows = sum_in so_far.walk step (λ k. low (E k)) c.if-kept.true in
    let highs = sum_in so_far.walk step (λ k. high (E k)) c.if-kept.true in
    record {
      can = (tt, tt);
      finite = tt;
      walk = walked so_far.walk step;
      lows = omega (arith, ap low c.entry-entry.ensures);
      lows_fit = omega arith;
      highs = omega (arith, ap high c.entry-entry.ensures);
      highs_fit = omega arith;
    }

pub loop-i-preserved : goal.loop-i-preserved
loop-i-preserved g c =
    let step = c.in-Some.ensures.steps in
    let so_far = c.loop-i.invariant in
    let E = (state c.args.self.now.survey.now.tables).entries in
    let lows = sum_out so_far.walk step (λ k. low (E k)) c.if-kept.false in
    let highs = sum_out so_far.walk step (λ k. high (E k)) c.if-kept.false in
    record {
      can = (tt, tt);
      finite = tt;
      walk = walked so_far.walk step;
      lows = omega arith;
      lows_fit = omega arith;
      highs = omega arith;
      highs_fit = omega arith;
    }
