use Rattle.survey.specs.States.{state}
use Rattle.writer.proofs.Writing.{wrote_as, wrote_both}
use Rattle.plan.specs.Names.{held_names}
use Rattle.plan.specs.Texts.{kept_line}
use Rattle.plan.proofs.Keeping.{each_in, each_out, walked}
use Rattle.plan.proofs.texts.Surveyed.put_lines.Goals as goal

pub loop-i-preserved-then-kept : goal.loop-i-preserved-then-kept
loop-i-preserved-then-kept g c =
    let step = c.in-Some.ensures.steps in
    let text = kept_line (state c.args.self.now.survey.now.tables).entries (held_names g.T.Named.named c.args.self.now.body.now) in
    record {
      can = (tt, tt);
      finite = tt;
      walk = walked c.loop-i.invariant.walk step;
      written = wrote_as (each_in c.loop-i.invariant.walk step text c.if-kept.true) (wrote_both c.loop-i.invariant.written c.put_line.ensures);
    }

pub loop-i-preserved : goal.loop-i-preserved
loop-i-preserved g c =
    let step = c.in-Some.ensures.steps in
    let text = kept_line (state c.args.self.now.survey.now.tables).entries (held_names g.T.Named.named c.args.self.now.body.now) in
    record {
      can = (tt, tt);
      finite = tt;
      walk = walked c.loop-i.invariant.walk step;
      written = wrote_as (each_out c.loop-i.invariant.walk step text c.if-kept.false) c.loop-i.invariant.written;
    }
