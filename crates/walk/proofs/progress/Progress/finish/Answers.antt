use Rattle.std.proofs.Common.{◌≡◌, ◌∙◌, Bool, true, List, length, set, subst, sym, arith, length-set}
use Rattle.element.specs.Marks.{all_marks}
use Rattle.entry.specs.Held.{sheet}
use Rattle.matroid.specs.Questions.{marked}
use Rattle.walk.specs.Stages.{Reached, settles}
use Rattle.walk.specs.Walked.{Along}
use Rattle.walk.proofs.Advances.{turn_none, turn_fewer, turn, stop_ends}
use Rattle.walk.proofs.progress.Progress.finish.Goals as goal
use Rattle.walk.proofs.progress.Progress.finish.Goals.{in-None, in-Some-closed_if_asked}

pub returns-clause-stops : goal.returns-clause-stops
returns-clause-stops g c = λ r. settles (turn_none (g.M.Matroid.meaning c.args.matroid.now) (sheet c.args.entries.now) _ c.size.ensures (omega arith) c.loop-e.taken c.loop-e.invariant.0 _ c.next.ensures c.in_default.is)

pub returns-in-Some-2-clause-stops : goal.returns-in-Some-2-clause-stops
returns-in-Some-2-clause-stops g c = λ r.
    let t = turn _ (sheet c.args.entries.now) _ c.size.ensures (omega arith) c.loop-e.taken c.loop-e.invariant.0 _ c.next.ensures c.in-Some.e c.in-Some.is
    (g.met.M.Matroid.laws c.args.matroid.now) c.loop-e.kept c.loop-e.invariant.1 (c.loop-e.invariant.2 r) in
    let h = c.in-Some-closed_if_asked.ensures t.askable in
    t.opens _ h.0 h.1 c.if-is_topped.ensures

pub returns-clause-walk : goal.returns-clause-walk
returns-clause-walk g c = λ a. stop_ends _ (sheet c.args.entries.now) _ _ _ (c.loop-e.invariant.2 a) (returns-clause-stops g c a)

pub returns-in-Some-2-clause-walk : goal.returns-in-Some-2-clause-walk
returns-in-Some-2-clause-walk g c = λ a. stop_ends _ (sheet c.args.entries.now) _ _ _ (c.loop-e.invariant.2 a) (returns-in-Some-2-clause-stops g c a)

pub loop-e-smaller : goal.loop-e-smaller
loop-e-smaller g c = turn_fewer (g.M.Matroid.meaning c.args.matroid.now) (sheet c.args.entries.now) _ c.size.ensures (omega arith) c.loop-e.taken c.loop-e.invariant.0 _ c.next.ensures c.in-Some.e c.in-Some.is

pub loop-e-preserved : goal.loop-e-preserved
loop-e-preserved g c =
    let m = g.M.Matroid.meaning c.args.matroid.now in
    let E = sheet c.args.entries.now in
    let taken : List Bool = set c.loop-e.taken c.in-Some.e true in
    let turn_at = λ (r : Along m E c.args.self.now).
    turn _ (sheet c.args.entries.now) _ c.size.ensures (omega arith) c.loop-e.taken c.loop-e.invariant.0 _ c.next.ensures c.in-Some.e c.in-Some.is
    (g.met.M.Matroid.laws c.args.matroid.now) c.loop-e.kept c.loop-e.invariant.1 (c.loop-e.invariant.2 r) in
    let U : List Bool → Type 0 = λ kept.
    (length taken ≡ all_marks) × (length kept ≡ all_marks) × (Along m E c.args.self.now → Reached m E (marked taken) (marked kept)) in
    elim c.match-closed_if_asked.branch [
      | in-None w ↦ subst U (sym w.kept-is) (
        length-set _ _ _ ∙ c.loop-e.invariant.0,
        length-set _ _ _ ∙ c.loop-e.invariant.1,
        λ r. let t = turn_at r in t.keeps (w.in-None.ensures t.askable),
      )
      | in-Some-closed_if_asked w ↦ subst U (sym w.kept-is) (
        length-set _ _ _ ∙ c.loop-e.invariant.0,
        c.loop-e.invariant.1,
        λ r. let t = turn_at r in let h = w.in-Some-closed_if_asked.ensures t.askable in t.drops _ h.0 h.1 w.if-is_topped.ensures,
      )
    ]
