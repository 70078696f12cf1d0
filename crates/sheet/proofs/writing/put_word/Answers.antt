use Rattle.std.proofs.Common.{map, ap, ◌∙◌, arith}
use Rattle.std.proofs.lemmas.List.{take_all}
use Rattle.writer.proofs.Writing.{wrote_as, wrote_both}
use Rattle.sheet.specs.Code.{bit_of}
use Rattle.sheet.proofs.Inscribing.{letters}
use Rattle.sheet.proofs.writing.put_word.Goals as goal

pub returns : goal.returns
returns c =
    wrote_both
    (wrote_as (ap (map bit_of) (take_all c.loop-letter.letter-index c.args.word.now (omega arith)) ∙ letters c.args.word.now) c.loop-letter.invariant)
    c.byte-2.ensures
