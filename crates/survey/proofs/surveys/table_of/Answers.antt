use Rattle.survey.proofs.Listing.{filled}
use Rattle.element.specs.Marks.{all_marks}
use Rattle.survey.proofs.surveys.table_of.Goals as goal

pub returns : goal.returns
returns c = filled c.args.entries.now c.copy_from_slice.new.self c.min-count.result c.args.n all_marks c.copy_from_slice.ensures.after cc
