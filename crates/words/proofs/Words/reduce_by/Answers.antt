use Rattle.std.proofs.Common.{refl, arith}
use Rattle.matroid.specs.Questions.{marked}
use Rattle.kinds.specs.Lists.{at}
use Rattle.words.specs.Reductions.{word_at, pivot_at}
use Rattle.words.proofs.Rows.{row_taken}
use Rattle.words.proofs.WordOutcomes.{covered_dependent}
use Rattle.words.proofs.Words.reduce_by.Goals as goal
use Rattle.std.proofs.Common.{length}

pub returns-in_default : goal.returns-in_default
returns-in_default c = (
  refl,
  covered_dependent (length c.args.self.now.words.list.items) (at c.args.self.now.words.list.items) (word_at c.args.table.now.rows) (marked c.args.set.now) c.args.i
      (pivot_at c.args.table.now.rows) (marked c.args.table.now.used) c.requires.reduced.reduced c.requires.below c.if-not-set-i.false c.in_default.ensures,
)

pub returns : goal.returns
returns c =
    let (below, one, free, _) = c.in-Some.ensures in
    let size = c.size.ensures in
    let few = c.args.self.now.words.few in
    row_taken c.args.self.now.words.list.items c.args.set.now c.args.i c.args.table.now c.from-n.result c.eliminate.new.rows _ c.in-Some.c c.from.result c.cleared-rest.result
    c.requires.reduced c.if-not-set-i.false c.requires.below below free one c.cleared-rest.ensures (omega (arith, c.from-n.ensures)) (omega (arith, c.from-n.ensures)) c.eliminate.auto.rows
    c.eliminate.ensures.words c.eliminate.ensures.pivots c.from.ensures (omega arith)
