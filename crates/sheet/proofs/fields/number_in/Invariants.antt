use Rattle.std.proofs.Common.{◌≡◌, ◌<◌}
use Rattle.sheet.proofs.Scans.{Read}
use Rattle.sheet.proofs.fields.number_in.Given as goal

abbrev pub invariant-loop-i : goal.invariant-loop-i
invariant-loop-i l = Read l.field l.i l.value × (l.value < 10000000000) × (l.i ≡ 0 → l.value ≡ 0)
