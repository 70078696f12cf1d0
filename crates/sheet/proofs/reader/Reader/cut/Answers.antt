use Rattle.std.proofs.Common.{add-one, arith, length-drop, eqb, sym, refl, ◌∙◌}
use Rattle.std.proofs.lemmas.List.{take_rest}
use Rattle.std.proofs.lemmas.List.Quantifiers.{position-Some}
use Rattle.sheet.proofs.Scans.{cut_found, cut_none}
use Rattle.sheet.proofs.reader.Reader.cut.Goals as goal

pub returns-in_err-at : goal.returns-in_err-at
returns-in_err-at c = rw c.from_residual.ensures (cut_none c.args.end c.args.self.now.rest.now (sym c.place_of.ensures ∙ c.in_err-at.was), refl)

pub returns : goal.returns
returns c =
    let p = sym c.place_of.ensures ∙ c.in_ok-at.was in
    let l = (position-Some (λ b. eqb b c.args.end) c.args.self.now.rest.now c.in_ok-at.at 0 p).0 in
    (rw (take_rest, add-one) (cut_found c.args.end c.args.self.now.rest.now c.in_ok-at.at p), refl, rw take_rest (rw length-drop (omega arith)))
