use Rattle.words.proofs.Eliminated.{bit_cleared}
use Rattle.words.proofs.elimination.cleared.Goals as goal

pub returns : goal.returns
returns c = bit_cleared c.args.word c.args.c c.requires.below c.requires.one
