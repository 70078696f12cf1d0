use Rattle.element.specs.Marks.{all_marks}
use Rattle.source.proofs.Blanking.{blanking}
use Rattle.source.proofs.table.Table.new.Goals as goal

pub returns : goal.returns
returns c = blanking all_marks
