use Rattle.std.proofs.Common.{◌≡◌}
use Rattle.fault.specs.Refusals.{told}
use Rattle.survey.specs.States.{state}
use Rattle.requests.proofs.Turns.{Carried}
use Rattle.requests.proofs.lists.carry_out_all.Given as goal

abbrev pub invariant-loop-request : goal.invariant-loop-request
invariant-loop-request g l =
    (l.survey.matroid ≡ l.initial.survey.matroid)
    × Carried g.S.Source.meaning g.S.Source.keeps g.S.Source.origin (g.M.Matroid.meaning l.initial.survey.matroid) (state l.initial.survey.tables) l.initial.requests l.request-index (state l.survey.tables) l.requests (told (λ x. x) l.answer)
