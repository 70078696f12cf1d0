use Rattle.std.proofs.Common.{map, take}
use Rattle.writer.specs.Written.{Wrote}
use Rattle.sheet.specs.Code.{bit_of}
use Rattle.sheet.proofs.writing.put_word.Given as goal

abbrev pub invariant-loop-letter : goal.invariant-loop-letter
invariant-loop-letter l = Wrote l.initial.writer (map bit_of (take l.letter-index l.word)) l.writer
