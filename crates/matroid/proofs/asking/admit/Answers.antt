use Rattle.std.proofs.lemmas.Option.{MatchOption-at_some}
use Rattle.matroid.proofs.Replies.{asked_beyond, asked_stray, asked_member, asked_members}
use Rattle.matroid.proofs.asking.admit.Goals as goal

pub returns-then-element-n : goal.returns-then-element-n
returns-then-element-n c =
    let f = MatchOption-at_some _ _ _ c.in_ok-members.ensures.ok_part c.first_chunk.ensures.cases in
    asked_beyond c.args.n c.args.set.now c.args.element c.args.marks.now c.in_ok-members.members.now f.enough c.if-marks-lt-MARKS.false f.same c.if-element-n.true

pub returns-in-Some : goal.returns-in-Some
returns-in-Some c =
    let f = MatchOption-at_some _ _ _ c.in_ok-members.ensures.ok_part c.first_chunk.ensures.cases in
    asked_stray c.args.n c.args.set.now c.args.element c.args.marks.now c.in_ok-members.members.now f.enough c.if-marks-lt-MARKS.false f.same c.if-element-n.false
    c.from.result c.in-Some.element c.from.ensures c.in-Some.ensures

pub returns-then-members-from : goal.returns-then-members-from
returns-then-members-from c =
    let f = MatchOption-at_some _ _ _ c.in_ok-members.ensures.ok_part c.first_chunk.ensures.cases in
    asked_member c.args.n c.args.set.now c.args.element c.args.marks.now c.in_ok-members.members.now f.enough c.if-marks-lt-MARKS.false f.same c.if-element-n.false
    c.from.result c.from-2.result c.from.ensures c.in_default.ensures c.from-2.ensures c.if-members-from.true

pub returns : goal.returns
returns c =
    let f = MatchOption-at_some _ _ _ c.in_ok-members.ensures.ok_part c.first_chunk.ensures.cases in
    asked_members c.args.n c.args.set.now c.args.element c.args.marks.now c.in_ok-members.members.now f.enough c.if-marks-lt-MARKS.false f.same c.if-element-n.false
    c.from.result c.from-2.result c.from.ensures c.in_default.ensures c.from-2.ensures c.if-members-from.false
