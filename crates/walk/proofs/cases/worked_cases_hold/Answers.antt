use Rattle.std.proofs.Common.{refl}
use Rattle.promise.proofs.Worked.{worked}
use Rattle.walk.proofs.cases.worked_cases_hold.Goals as goal

pub returns : goal.returns
returns c = record { worked = worked; answer = refl }
