use Rattle.std.proofs.Common.{◌≡◌, false, replicate, sym, subst}
use mathlib.Core.Path.{fun_ext}
use Rattle.element.specs.Marks.{all_marks}
use Rattle.matroid.specs.Sets.{Elements, nothing}
use Rattle.matroid.specs.Questions.{marked}
use Rattle.matroid.proofs.Marks.{marked_none}
use Rattle.walk.specs.Stages.{Reached, begins}
use Rattle.walk.proofs.progress.Progress.new.Goals as goal

none : marked (replicate all_marks false) ≡ nothing
none = fun_ext (marked_none all_marks)

pub returns : goal.returns
returns c = record { taken = none; kept = none; along = λ m E. subst (λ (S : Elements). Reached m E S S) (sym none) begins }
