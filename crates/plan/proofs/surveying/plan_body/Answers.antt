use Rattle.std.proofs.Common.{◌≡◌, ℕ, map, Ok, vec_items, refl, ap, ◌∙◌, arith, rules}
use Rattle.std.proofs.lemmas.Iterator.{YieldsList-from_map, YieldsList-from_slice, items_from_collect}
use Rattle.std.proofs.lemmas.Iterator.Consumers.{YieldsList-at}
use Rattle.fault.specs.Refusals.{told}
use Rattle.promise.specs.Surveys.{Source}
use Rattle.survey.specs.States.{listed, state}
use Rattle.writer.proofs.Writing.{wrote_as, written_out}
use Rattle.plan.specs.Meanings.{entry_of}
use Rattle.plan.specs.Names.{held_names}
use Rattle.plan.specs.Texts.{rationed}
use Rattle.plan.proofs.Deciding.{planned}
use Rattle.plan.proofs.surveying.plan_body.Goals as goal

pub returns : goal.returns
returns g c =
    let m = g.M.Matroid.meaning c.args.matroid in
    let b = c.args.body.now in
    let h = c.run_and_report-answer.ensures in
    let v = c.in_ok-survey.survey in
    let made = c.in_ok-survey.ensures.made in
    let q = c.new-source.result in
    let entries : vec_items c.in_ok-entries.entries ≡ map entry_of (vec_items b.elements) =
    items_from_collect {E = ℕ} (Ok c.in_ok-entries.entries) c.in_ok-entries.ensures.ran
    (YieldsList-from_map _ entry_of (YieldsList-at c.map.ensures.source (YieldsList-from_slice (vec_items b.elements) (c.iter.ensures.rest ∙ c.deref.ensures.value))) c.map.ensures.closure (λ x r q k. search rules)) in
    let σ₀ : Source = rationed q.below.lines.now q.number in
    let σ : Source = rationed (vec_items b.recorded) b.allowance in
    written_out c.finish.result c.in_ok-writer.ensures.made
    (wrote_as
    (planned m (g.M.Matroid.meaning v.matroid) (ap g.M.Matroid.meaning made.1) (listed m.size (map entry_of (vec_items b.elements)))
    (state v.tables) (state c.run_and_report-answer.new.self.tables) σ σ₀ _
    (held_names g.T.Named.named b)
    _ c.size-n.result c.run_and_report-answer.new.marks (told (λ x. x) c.run_and_report-answer.result)
    (cc (made.0, c.deref-3.ensures.value, entries)) (cc (c.new.ensures, c.deref-2.ensures.value, c.new-source.ensures.below, c.new-source.ensures.number)) h.survey h.source refl h.answer h.marks c.size-n.ensures (omega arith))
    c.put.ensures)
    c.finish.ensures
