use Rattle.matroid.specs.Questions.{marked}
use Rattle.survey.specs.States.{state}
use Rattle.writer.specs.Written.{Wrote}
use Rattle.plan.specs.Names.{held_names}
use Rattle.plan.specs.Texts.{each_kept, kept_line}
use Rattle.plan.proofs.Keeping.{Walk}
use Rattle.plan.proofs.texts.Surveyed.put_lines.Given as goal

abbrev pub invariant-loop-i : goal.invariant-loop-i
invariant-loop-i g l = record {
  can : (goal.iterator-loop-i g).can_next l.i-iterator;
  finite : (goal.iterator-loop-i g).is_finite l.i-iterator;
  walk : Walk l.self.marks.now l.self.n l.i-iterator.a.start l.i-iterator.a.end l.i-iterator.b.rest.now;
  written : Wrote l.initial.writer (each_kept l.i-iterator.a.start (marked l.self.marks.now) (kept_line (state l.self.survey.now.tables).entries (held_names g.T.Named.named l.self.body.now))) l.writer;
}
