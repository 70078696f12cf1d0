use Rattle.std.proofs.Common.{vec_len, ◌∙◌, arith, length-set}
use Rattle.survey.proofs.Paying.{room_kept}
use Rattle.survey.proofs.tables.Tables.learn.Goals as goal

pub invariant_of-self : goal.invariant_of-self
invariant_of-self c =
    let t = c.args.self.now in
    record {
      places = length-set _ _ _ ∙ t.places;
      rows = t.rows;
      room = omega (arith, room_kept t.entries (vec_len t.lines) c.args.element c.args.price t.room (omega (arith, t.places)) c.requires);
    }
