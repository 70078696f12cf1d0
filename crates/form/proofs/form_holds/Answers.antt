use Rattle.std.proofs.Common.{refl}
use Rattle.form.proofs.Whole.{accepts_the_written, reads_back, one_sheet}
use Rattle.form.proofs.form_holds.Goals as goal

pub returns : goal.returns
returns c = record { accepts = accepts_the_written; back = reads_back; one = one_sheet; answer = refl }
