use Rattle.std.proofs.Common.{vec_len, ◌∙◌, arith, length-set}
use Rattle.survey.proofs.Paying.{room_left, room_kept}
use Rattle.survey.proofs.tables.Tables.pay.Goals as goal

pub push_reserved-requires : goal.push_reserved-requires
push_reserved-requires c =
    let t = c.args.self.now in
    omega (arith, room_left t.entries (vec_len t.lines) c.args.element c.args.price t.room (omega (arith, t.places)) c.requires, t.rows, t.places)

pub invariant_of-self : goal.invariant_of-self
invariant_of-self c =
    let t = c.args.self.now in
    record {
      places = length-set _ _ _ ∙ t.places;
      rows = omega (arith, t.rows, c.push_reserved.ensures.capacity);
      room = omega (arith, room_kept t.entries (vec_len t.lines) c.args.element c.args.price t.room (omega (arith, t.places)) c.requires, c.push_reserved.ensures.len);
    }
