use Rattle.std.proofs.Common.{map, take}
use Rattle.std.specs.List.{flat_map}
use Rattle.writer.specs.Written.{Wrote}
use Rattle.sheet.proofs.sections.write_section.Given as goal

abbrev pub invariant-loop-item : goal.invariant-loop-item
invariant-loop-item g l = Wrote l.initial.writer (flat_map g.R.Row.text (map g.R.Row.value (take l.item-index l.items))) l.writer
