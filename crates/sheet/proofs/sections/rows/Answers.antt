use Rattle.std.proofs.Common.{map, vec_items, ap, ◌∙◌, arith}
use Rattle.std.proofs.lemmas.List.{map_push}
use Rattle.std.proofs.lemmas.Result.{err_from_is_err_and}
use Rattle.sheet.proofs.Ways.{sofar_turn, sofar_halt, last_is, stops_map}
use Rattle.sheet.proofs.sections.rows.Goals as goal

pub loop-preserved : goal.loop-preserved
loop-preserved g c = (
  sofar_turn c.loop.invariant.0 (last_is g.R.Row.value (vec_items c.loop.items) _ _ c.deref.ensures.value c.last.ensures.item) c.in_ok-item.ensures (omega arith)
      (ap (map g.R.Row.value) c.push_reserved.ensures.items ∙ map_push g.R.Row.value (vec_items c.loop.items) c.in_ok-item.item),
  omega (arith, c.push_reserved.ensures.len),
  omega (arith, c.push_reserved.ensures.capacity),
)

pub returns-in_err-item-clause-read : goal.returns-in_err-item-clause-read
returns-in_err-item-clause-read g c =
    let p = err_from_is_err_and c.from_residual.result c.from_residual.ensures.1 in
    rw (p.1, p.2)
    (stops_map _ _ c.in_err-item.field-0.0
    (λ k m e. sofar_halt c.loop.invariant.0 (last_is g.R.Row.value (vec_items c.loop.items) _ _ c.deref.ensures.value c.last.ensures.item) e (omega arith))
    c.in_err-item.ensures)
