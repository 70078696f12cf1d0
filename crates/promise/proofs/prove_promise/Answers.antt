use Rattle.promise.proofs.Promised.{promised}
use Rattle.promise.proofs.prove_promise.Goals as goal

pub returns : goal.returns
returns c = promised
