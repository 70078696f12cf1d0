use Rattle.std.proofs.Common.{ℕ, ◌<◌, ◌≤◌, refl, ap, ap₂, ◌∙◌, arith}
use Rattle.matroid.specs.Questions.{marked}
use Rattle.matroid.specs.Sets.{with}
use Rattle.kinds.specs.Kinds.{within_lot}
use Rattle.kinds.specs.Lists.{at}
use Rattle.lots.proofs.LotCounts.{counts_test, counts_room, counts_full}
use Rattle.lots.proofs.Lots.outcome.Goals as goal

pub returns-then-not-within_caps : goal.returns-then-not-within_caps
returns-then-not-within_caps c = (
  refl,
  counts_test c.args.self.now.lots.list.items c.args.self.now.caps.items (marked c.args.set.now) c.counts_of-counts.result c.counts_of-counts.ensures.counted c.counts_of-counts.ensures.places
      c.within_caps.result c.within_caps.ensures ∙ c.if-not-within_caps.true,
)

pub returns-then-counts-from : goal.returns-then-counts-from
returns-then-counts-from c =
    let lot = ap₂ at c.as_slice-lots.ensures c.from-e.ensures in
    let counts = ap (at c.counts_of-counts.result) (c.from.ensures ∙ lot) in
    let cap = c.cap_of.ensures ∙ ap (at c.args.self.now.caps.items) lot in
    let h : at c.counts_of-counts.result (at c.args.self.now.lots.list.items c.args.element) < at c.args.self.now.caps.items (at c.args.self.now.lots.list.items c.args.element) = omega arith in
    counts_room c.args.self.now.lots.list.items c.args.self.now.caps.items (marked c.args.set.now) c.counts_of-counts.result c.counts_of-counts.ensures.counted c.counts_of-counts.ensures.places
    c.within_caps.result c.within_caps.ensures c.if-not-within_caps.false c.args.element c.requires.below h

pub returns : goal.returns
returns c =
    let lot = ap₂ at c.as_slice-lots.ensures c.from-e.ensures in
    let counts = ap (at c.counts_of-counts.result) (c.from.ensures ∙ lot) in
    let cap = c.cap_of.ensures ∙ ap (at c.args.self.now.caps.items) lot in
    let h : at c.args.self.now.caps.items (at c.args.self.now.lots.list.items c.args.element) ≤ at c.counts_of-counts.result (at c.args.self.now.lots.list.items c.args.element) = omega arith in
    counts_full c.args.self.now.lots.list.items c.args.self.now.caps.items (marked c.args.set.now) c.counts_of-counts.result c.counts_of-counts.ensures.counted c.counts_of-counts.ensures.places
    c.within_caps.result c.within_caps.ensures c.if-not-within_caps.false c.args.element c.requires.below c.requires.outside h c.circuit_of.result
    (λ k l. c.circuit_of.ensures k l ∙ ap (λ (x : ℕ). within_lot (at c.args.self.now.lots.list.items) (with (marked c.args.set.now) x) (at c.args.self.now.lots.list.items x) k) c.from-e.ensures)
