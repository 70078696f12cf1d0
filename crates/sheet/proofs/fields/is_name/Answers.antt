use Rattle.std.proofs.Common.{rules, tests, arith}
use Rattle.std.proofs.lemmas.Iterator.{YieldsList-from_slice}
use Rattle.std.proofs.lemmas.Iterator.Search.{all_from_yields_List}
use Rattle.std.proofs.lemmas.Bool.Decides.{nat_tests}
use Rattle.form.specs.Sheets.{name_byte}
use Rattle.sheet.proofs.Scans.{each_is}
use Rattle.sheet.proofs.fields.is_name.Goals as goal

pub returns-then-field-le12 : goal.returns-then-field-le12
returns-then-field-le12 c =
    let a = all_from_yields_List name_byte _ _ c.all.result c.all.ensures.ran (YieldsList-from_slice c.args.field.now cc) (λ x b q k. search (rules, tests)) in
    let e = each_is name_byte c.args.field.now in
    grind (arith, nat_tests)
