use Rattle.std.proofs.Common.{rules, tests, arith}
use Rattle.std.proofs.lemmas.Iterator.{YieldsList-from_slice}
use Rattle.std.proofs.lemmas.Iterator.Search.{all_from_yields_List}
use Rattle.std.proofs.lemmas.Bool.Decides.{nat_tests}
use Rattle.sheet.specs.Code.{is_bit}
use Rattle.sheet.proofs.Scans.{each_is}
use Rattle.sheet.proofs.fields.is_word.Goals as goal

pub returns-then-field-from : goal.returns-then-field-from
returns-then-field-from c =
    let a = all_from_yields_List is_bit _ _ c.all.result c.all.ensures.ran (YieldsList-from_slice c.args.field.now cc) (λ x b q k. search (rules, tests)) in
    let e = each_is is_bit c.args.field.now in
    grind (arith, nat_tests)
