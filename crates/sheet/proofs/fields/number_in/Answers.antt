use Rattle.std.proofs.Common.{arith}
use Rattle.sheet.proofs.Scans.{not_small}
use Rattle.sheet.proofs.fields.number_in.Goals as goal

pub returns-in-48-to-57-2 : goal.returns-in-48-to-57-2
returns-in-48-to-57-2 c = not_small c.args.field.now c.loop-i.i c.loop-i.value c.loop-i.invariant.0 (omega arith) (omega arith)
