use Rattle.std.proofs.Common.{ℕ, ◌+◌, ◌<◌, Bool, false, ◌&&◌, List, length, replicate, sym, ◌∙◌, subst, arith}
use lib.ListN.{length-replicate, get_or-replicate}
use Rattle.element.specs.Marks.{all_marks}
use Rattle.matroid.specs.Sets.{Elements}
use Rattle.matroid.specs.Questions.{marked}
use Rattle.matroid.proofs.Marks.{Showing, showing_more, showing_skip}
use Rattle.kinds.specs.Kinds.{bit}
use Rattle.words.specs.Reductions.{word_at, pivot_at}
use Rattle.words.proofs.Rows.{own_bit, no_bit}
use Rattle.words.proofs.Words.circuit_of.Goals as goal
use Rattle.words.proofs.Words.circuit_of.Goals.{in-Some, in_default}

pub loop-k-preserved : goal.loop-k-preserved
loop-k-preserved c =
    let word : ℕ = word_at c.args.table.now.rows c.args.e in
    let P : Elements = λ j. marked c.args.set.now j && bit word (pivot_at c.args.table.now.rows j) in
    let old : List Bool = replicate all_marks false in
    let Q : List Bool → Type 0 = λ m. Showing P old m (c.loop-k.k + 1) in
    let long = length-replicate all_marks false in
    let size = c.size.ensures in
    let n = c.from-n.ensures in
    let few = c.args.self.now.words.few in
    let l : c.loop-k.k < c.from-n.result = omega arith in
    let m : c.loop-k.k < length old = omega arith in
    elim c.match-row.branch [
      | in-Some w ↦ subst Q (sym w.marks-is)
          (showing_more P old c.loop-k.marks c.loop-k.k w.bit_of.result m c.loop-k.invariant
          (w.bit_of.ensures ∙ own_bit c.args.self.now.words.list.items c.args.set.now c.args.table.now c.from-n.result c.requires.reduced (omega arith) word c.loop-k.k l w.in-Some.pivot w.in-Some.is))
      | in_default w ↦ subst Q (sym w.marks-is)
          (showing_skip P old c.loop-k.marks c.loop-k.k c.loop-k.invariant (λ d. get_or-replicate all_marks c.loop-k.k false d (omega arith)
          ∙ no_bit c.args.self.now.words.list.items c.args.set.now c.args.table.now c.from-n.result c.requires.reduced (omega arith) word c.loop-k.k l w.in_default.is))
    ]
