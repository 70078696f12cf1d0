use Rattle.std.proofs.Common.{◌≡◌, arith}
use Rattle.std.proofs.lemmas.Grind.{common_steps}
use Rattle.std.proofs.lemmas.Bool.Decides.{nat_tests}
use Rattle.fault.specs.Refusals.{told}
use Rattle.form.specs.Reading.{checked}
use Rattle.form.proofs.Whole.{tells}
use Rattle.sheet.specs.Code.{sheet_of}
use Rattle.sheet.proofs.read.Goals as goal

pub returns-clause-tells : goal.returns-clause-tells
returns-clause-tells c e =
    let r : told sheet_of c.read_whole.result ≡ checked c.args.bytes.now = grind (arith, common_steps, nat_tests) in
    tells (told sheet_of c.read_whole.result) c.args.bytes.now r
