use Rattle.std.proofs.Common.{◌≡◌, ◌-◌, ◌≤◌, map, None, vec_items, vec_len, vec_capacity}
use Rattle.form.specs.Reading.{repeated}
use Rattle.sheet.specs.Readers.{left}
use Rattle.sheet.proofs.Ways.{Sofar}
use Rattle.sheet.proofs.sections.rows.Given as goal

abbrev pub invariant-loop : goal.invariant-loop
invariant-loop g l =
    Sofar (g.R.Row.step l.above) (repeated (g.R.Row.step l.above) None l.count (left l.initial.reader) l.initial.reader.line) (map g.R.Row.value (vec_items l.items)) (l.count - l.counter) (left l.reader) l.reader.line × (vec_len l.items ≡ l.counter) × (l.count ≤ vec_capacity l.items)
