use Rattle.std.proofs.Common.{◌≡◌, map, length, vec_items, vec_len, Vec, sym, ◌∙◌}
use lib.ListN.{length-map}
use Rattle.std.specs.declared.alloc.Global.{Global}
use Rattle.std.proofs.lemmas.Result.{err_from_is_err_and}
use Rattle.sheet.specs.Code.{element_of}
use Rattle.sheet.specs.Readers.{left}
use Rattle.sheet.proofs.Ways.{body_elements, body_records, body_all}
use Rattle.sheet.proofs.sections.sections.Goals as goal

-- as many values as there are items
len_values : {X A : Type 0} (value : X → A) (v : Vec X Global) → vec_len v ≡ length (map value (vec_items v))
len_values value v = v.ok.0 ∙ sym (length-map (vec_items v) value)

pub returns-in_err-elements : goal.returns-in_err-elements
returns-in_err-elements g c =
    let p = err_from_is_err_and c.from_residual-in_err-elements.result c.from_residual-in_err-elements.ensures.1 in
    rw (p.1, p.2)
    (body_elements c.args.limits.least c.args.limits.most (g.P.Row.step 0) g.T.Tail.form c.args.empty.allowance (left c.args.reader.now) c.args.reader.now.line
    c.in_ok-places.ensures.read (c.len.ensures ∙ len_values g.P.Row.value c.in_ok-places.places)
    c.in_err-elements.field-0.0 c.in_err-elements.ensures.read)

pub returns-in_err-recorded : goal.returns-in_err-recorded
returns-in_err-recorded g c =
    let p = err_from_is_err_and c.from_residual-in_err-recorded.result c.from_residual-in_err-recorded.ensures.1 in
    rw (p.1, p.2)
    (body_records c.args.limits.least c.args.limits.most (g.P.Row.step 0) g.T.Tail.form c.args.empty.allowance (left c.args.reader.now) c.args.reader.now.line
    c.in_ok-places.ensures.read (c.len.ensures ∙ len_values g.P.Row.value c.in_ok-places.places)
    c.in_ok-elements.ensures.read (c.len-2.ensures ∙ len_values (element_of g.T.Tail.value) c.in_ok-elements.elements)
    c.in_err-recorded.field-0.0 c.in_err-recorded.ensures.read)

pub returns : goal.returns
returns g c =
    body_all c.args.limits.least c.args.limits.most (g.P.Row.step 0) g.T.Tail.form c.args.empty.allowance (left c.args.reader.now) c.args.reader.now.line
    c.in_ok-places.ensures.read (c.len.ensures ∙ len_values g.P.Row.value c.in_ok-places.places)
    c.in_ok-elements.ensures.read (c.len-2.ensures ∙ len_values (element_of g.T.Tail.value) c.in_ok-elements.elements)
    c.in_ok-recorded.ensures.read
