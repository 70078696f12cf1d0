use Rattle.std.proofs.Common.{get_or, ap, ◌∙◌, arith}
use Rattle.std.proofs.lemmas.Option.{slice_get-get_or}
use Rattle.fault.specs.Refusals.{told}
use Rattle.promise.specs.Calls.{did}
use Rattle.promise.specs.Replies.{spent_call}
use Rattle.survey.specs.States.{state}
use Rattle.requests.specs.Requests.{call_of, reply_to}
use Rattle.requests.proofs.Turns.{carried_more}
use Rattle.requests.proofs.lists.carry_out_all.Goals as goal

pub loop-request-preserved : goal.loop-request-preserved
loop-request-preserved g c =
    let h = c.carry_out-answer.ensures in
    let k = c.loop-request.invariant.0 in
    let t = state c.loop-request.survey.tables in
    let q = get_or c.loop-request.requests c.loop-request.request-index c.request-item.result in
    let q' = c.carry_out-answer.new.request in (
      h.matroid ∙ k,
      carried_more g.S.Source.meaning g.S.Source.keeps g.S.Source.origin (g.M.Matroid.meaning c.args.survey.now.matroid) (state c.args.survey.now.tables) c.args.requests.now
          c.loop-request.request-index t (state c.carry_out-answer.new.survey.tables) c.loop-request.requests (told (λ x. x) c.loop-request.answer) (told (λ x. x) c.carry_out-answer.result) q q'
          c.loop-request.invariant.1 (omega arith) (slice_get-get_or c.loop-request.requests c.loop-request.request-index c.request-item.result (omega arith))
          (h.survey ∙ ap (λ x. did (g.M.Matroid.meaning x) t (call_of g.S.Source.meaning g.S.Source.keeps q)) k)
          (h.request ∙ ap (λ x. spent_call (g.M.Matroid.meaning x) t (call_of g.S.Source.meaning g.S.Source.keeps q)) k)
          (h.answer ∙ ap (λ x. reply_to g.S.Source.meaning g.S.Source.keeps g.S.Source.origin (g.M.Matroid.meaning x) t q q') k),
    )
