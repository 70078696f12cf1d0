use Rattle.writer.proofs.Writing.{written_out}
use Rattle.sheet.specs.Code.{sheet_of}
use Rattle.sheet.proofs.Inscribing.{back_of}
use Rattle.sheet.proofs.write.Goals as goal

pub returns-clause-back : goal.returns-clause-back
returns-clause-back c =
    back_of (sheet_of c.args.sheet.now) c.finish.result (written_out c.finish.result c.in_ok-writer.ensures.made c.write_sheet.ensures c.finish.ensures)
