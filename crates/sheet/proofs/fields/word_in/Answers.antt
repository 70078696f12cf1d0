use Rattle.std.proofs.Common.{cond, Some, None, sym, ap, ◌∙◌}
use Rattle.sheet.specs.Code.{ones, valued, word_of}
use Rattle.sheet.proofs.Scans.{word_is, valued_then}
use Rattle.sheet.proofs.fields.word_in.Goals as goal

pub returns : goal.returns
returns c =
    ap (valued word_of) c.then_some.ensures ∙ (valued_then word_of c.is_word.result c.args.field
    ∙ (ap (λ t. cond t (Some (ones c.args.field.now)) None) c.is_word.ensures ∙ sym (word_is c.args.lamps c.args.field.now)))
