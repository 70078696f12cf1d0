use Rattle.std.proofs.Common.{map, ap}
use Rattle.form.specs.Sheets.{element_text, recorded_text, section}
use Rattle.writer.proofs.Writing.{wrote_as, wrote_both}
use Rattle.sheet.specs.Code.{element_of, record_of}
use Rattle.sheet.proofs.sections.write_body.Goals as goal

pub returns : goal.returns
returns g c =
    wrote_both c.put_field.ensures
    (wrote_both c.put_number.ensures
    (wrote_both
    (wrote_as (ap (λ xs. section g.P.Row.text (map g.P.Row.value xs)) c.deref.ensures.value) c.write_section.ensures)
    (wrote_both
    (wrote_as (ap (λ xs. section (element_text g.T.Tail.text) (map (element_of g.T.Tail.value) xs)) c.deref-2.ensures.value) c.write_section-2.ensures)
    (wrote_as (ap (λ xs. section recorded_text (map record_of xs)) c.deref-3.ensures.value) c.write_lines.ensures))))
