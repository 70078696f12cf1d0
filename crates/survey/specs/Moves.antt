-- What a survey does next, and what a step did, as the code says it. Assumes nothing.
--     planned x       the plan that the value x stands for
--     lined x         the line that was paid, if one was
--     Rests m s x     a finished step has the base that is settled
use Rattle.std.specs.Prelude.{◌≡◌, Some, None, Option}
use Rattle.element.specs.declared.Line.{Line}
use Rattle.matroid.specs.Matroids.{Meaning}
use Rattle.matroid.specs.Questions.{marked}
use Rattle.promise.specs.Surveys.{Plan, State, ask, report, rest}
use Rattle.survey.specs.declared.steps.Move.{Move}
use Rattle.survey.specs.declared.steps.Move.TheVariants.{Rest, Ask}
use Rattle.survey.specs.declared.steps.Stepped.{Stepped}
use Rattle.survey.specs.declared.steps.Stepped.TheVariants.{Finished, Paid}

abbrev pub planned : Move → Plan
planned (Rest marks) = rest (marked marks)
planned (Ask e q) = ask e q

abbrev pub lined : Stepped → Option Line
lined (Finished marks) = None
lined (Paid l) = Some l

abbrev pub Rests : Meaning → State → Stepped → Type 0
Rests m s (Finished marks) = report m s ≡ Some (marked marks)
Rests m s (Paid l) = Unit {0}
