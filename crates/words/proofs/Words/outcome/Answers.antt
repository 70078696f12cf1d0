use Rattle.std.proofs.Common.{◌≡◌, length, arith}
use Rattle.words.proofs.Rows.{untaken}
use Rattle.words.proofs.WordOutcomes.{uncovered_outcome, covered_outcome}
use Rattle.words.proofs.Words.outcome.Goals as goal

pub loop-i-init : goal.loop-i-init
loop-i-init c =
    untaken c.args.self.now.words.list.items c.args.set.now c.table-table.result c.table-table.ensures.same c.table-table.ensures.none c.table-table.ensures.free

pub returns-in-Some : goal.returns-in-Some
returns-in-Some c =
    let n = c.from-i-end.ensures in
    let size = c.size.ensures in
    let all : c.loop-i.i ≡ length c.args.self.now.words.list.items = omega arith in
    uncovered_outcome c.args.self.now.words.list.items c.args.set.now c.loop-i.table c.loop-i.i all c.loop-i.invariant c.args.element c.from-e.result c.from-e.ensures
    c.requires.below c.in-Some.field-0 c.in-Some.ensures

pub returns-in-None : goal.returns-in-None
returns-in-None c =
    let n = c.from-i-end.ensures in
    let size = c.size.ensures in
    let all : c.loop-i.i ≡ length c.args.self.now.words.list.items = omega arith in
    covered_outcome c.args.self.now.words.list.items c.args.set.now c.loop-i.table c.loop-i.i all c.loop-i.invariant c.args.element c.from-e.result c.from-e.ensures
    c.requires.below c.requires.outside c.in-None.ensures c.circuit_of.result c.circuit_of.ensures
