use Rattle.std.proofs.Common.{◌≡◌, ◌*◌, ◌^◌, ◌≤◌}
use Rattle.entry.specs.Entries.{high, low}
use Rattle.matroid.specs.Sets.{sum}
use Rattle.matroid.specs.Questions.{marked}
use Rattle.survey.specs.States.{state}
use Rattle.plan.proofs.Keeping.{Walk}
use Rattle.plan.proofs.texts.Surveyed.totals.Given as goal

abbrev pub invariant-loop-i : goal.invariant-loop-i
invariant-loop-i g l =
    let i = l.i-iterator.a.start in
    record {
      can : (goal.iterator-loop-i g).can_next l.i-iterator;
      finite : (goal.iterator-loop-i g).is_finite l.i-iterator;
      walk : Walk l.self.marks.now l.self.n i l.i-iterator.a.end l.i-iterator.b.rest.now;
      lows : l.lows ≡ sum i (λ k. low ((state l.self.survey.now.tables).entries k)) (marked l.self.marks.now);
      lows_fit : l.lows ≤ i * 2 ^ 32;
      highs : l.highs ≡ sum i (λ k. high ((state l.self.survey.now.tables).entries k)) (marked l.self.marks.now);
      highs_fit : l.highs ≤ i * 2 ^ 32;
    }
