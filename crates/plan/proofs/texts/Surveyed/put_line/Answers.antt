use Rattle.std.proofs.Common.{◌≡◌, [], ◌++◌, length, Some, decimal, sym, refl, ap, ◌∙◌, arith}
use Rattle.std.proofs.lemmas.List.{append-nil}
use Rattle.std.specs.List.{slice_get}
use Rattle.std.proofs.lemmas.Option.{slice_get_past, slice_get_read}
use Rattle.entry.specs.Entries.{high, low}
use Rattle.form.specs.Sheets.{price_text, spaced}
use Rattle.survey.specs.States.{state}
use Rattle.writer.proofs.Writing.{wrote_as, wrote_both}
use Rattle.plan.specs.Names.{mapped_or}
use Rattle.plan.proofs.texts.Surveyed.put_line.Goals as goal

pub returns-in-Some : goal.returns-in-Some
returns-in-Some g c =
    let found = c.in-Some.ensures.lookup in
    let es = c.args.self.now.body.now.elements.items in
    let line = c.in-Some.line.now in
    let here : slice_get es c.args.i ≡ Some line = slice_get_read es _ c.args.i line refl (omega (arith, found.3.0, c.from.ensures, ap length c.deref.ensures.value)) (cc (found.1, c.deref.ensures.value, c.from.ensures)) in
    wrote_both (wrote_as (ap (λ n. spaced (decimal n)) c.put_decimal.ensures.1) c.put_decimal.ensures.2)
    (wrote_both (wrote_as (ap (λ n. spaced (price_text n)) (c.low.ensures ∙ ap low c.entry-entry.ensures)) c.put_price.ensures)
    (wrote_both (wrote_as (ap (λ n. spaced (price_text n)) (c.high.ensures ∙ ap high c.entry-entry.ensures)) c.put_price-2.ensures)
    (wrote_as (ap (λ ps. g.T.Named.named ps c.in-Some.line.now.tail) c.deref-in-Some.ensures.value ∙ sym (ap (mapped_or [] (λ e. g.T.Named.named c.args.self.now.body.now.places.items e.tail)) here)) c.put_named.ensures)))

pub returns-in_default : goal.returns-in_default
returns-in_default g c =
    wrote_both (wrote_as (ap (λ n. spaced (decimal n)) c.put_decimal.ensures.1) c.put_decimal.ensures.2)
    (wrote_both (wrote_as (ap (λ n. spaced (price_text n)) (c.low.ensures ∙ ap low c.entry-entry.ensures)) c.put_price.ensures)
    (wrote_as (sym (ap (λ o. spaced (price_text (high ((state c.args.self.now.survey.now.tables).entries c.args.i))) ++ mapped_or [] (λ e. g.T.Named.named c.args.self.now.body.now.places.items e.tail) o) (slice_get_past c.args.self.now.body.now.elements.items c.args.i (omega (arith, c.in_default.ensures.lookup.3, c.deref.ensures.len, ap length c.deref.ensures.value))) ∙ append-nil _))
    (wrote_as (ap (λ n. spaced (price_text n)) (c.high.ensures ∙ ap high c.entry-entry.ensures)) c.put_price-2.ensures)))
