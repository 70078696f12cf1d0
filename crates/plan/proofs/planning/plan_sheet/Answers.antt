use Rattle.std.proofs.Common.{[], map, get_or, Ok, vec_items, sym, refl, ap, ◌∙◌, subst}
use lib.ListN.{length-map}
use Rattle.std.proofs.lemmas.Simd.{map-map}
use Rattle.form.specs.Sheets.{Within, ended}
use Rattle.kinds.specs.Lists.{lots_of, routes_of, words_of}
use Rattle.sheet.specs.Code.{HeldSheet, bytes, element_of, itself, lot_of, route_of, sheet_of, word_of}
use Rattle.plan.specs.Meanings.{cap_of, number_of, tail_of, word_number}
use Rattle.plan.specs.Names.{lot_name_text, route_name_text, word_name_text}
use Rattle.plan.specs.Plans.{lot_name, route_from, route_name, sheet_plan, word_name}
use Rattle.plan.proofs.Linking.{body_link, tails_link}
use Rattle.plan.proofs.planning.plan_sheet.Goals as goal

pub returns-in_ok-routes_in-in-Routes : goal.returns-in_ok-routes_in-in-Routes
returns-in_ok-routes_in-in-Routes c legal fed =
    let b = c.in-Routes.body in
    let es = vec_items b.elements in
    let few = (subst (λ (s : HeldSheet). Within (sheet_of s)) c.in-Routes.is legal).elements_most in
    c.plan_body.ensures fed ∙
    (ap Ok (body_link bytes route_of b _ (routes_of (map tail_of es)) _ (route_name_text (vec_items b.places)) (route_name (map bytes (vec_items b.places)))
    few c.in_ok-routes_in-in-Routes.ensures
    (ap routes_of (sym (tails_link bytes route_of b route_from))) (length-map es tail_of) (λ y. refl)) ∙
    ap (λ s. Ok (sheet_plan (sheet_of s))) (sym c.in-Routes.is))

pub returns-in_ok-lots_in-in-Lots : goal.returns-in_ok-lots_in-in-Lots
returns-in_ok-lots_in-in-Lots c legal fed =
    let b = c.in-Lots.body in
    let es = vec_items b.elements in
    let ls = vec_items b.places in
    let few = (subst (λ (s : HeldSheet). Within (sheet_of s)) c.in-Lots.is legal).elements_most in
    c.plan_body-in-Lots.ensures fed ∙
    (ap Ok (body_link lot_of itself b _ (lots_of (map tail_of es) (map cap_of ls)) _ (lot_name_text ls) (lot_name (map lot_of ls))
    few c.in_ok-lots_in-in-Lots.ensures
    (ap (λ ts. lots_of ts (map cap_of ls)) (sym (map-map (λ e. e.1) (element_of itself) es)) ∙
    ap (lots_of (map (λ e. e.1) (map (element_of itself) es))) (sym (map-map (λ l. l.1) lot_of ls))) (length-map es tail_of)
    (λ y. ap (λ ns. ended (get_or ns y [])) (sym (map-map (λ l. l.0) lot_of ls)))) ∙
    ap (λ s. Ok (sheet_plan (sheet_of s))) (sym c.in-Lots.is))

pub returns-in_ok-words_in-in-Words : goal.returns-in_ok-words_in-in-Words
returns-in_ok-words_in-in-Words c legal fed =
    let b = c.in-Words.body in
    let es = vec_items b.elements in
    let few = (subst (λ (s : HeldSheet). Within (sheet_of s)) c.in-Words.is legal).elements_most in
    c.plan_body-in-Words.ensures fed ∙
    (ap Ok (body_link bytes word_of b _ (words_of (map number_of es)) _ (word_name_text (vec_items b.places)) (word_name (map bytes (vec_items b.places)))
    few c.in_ok-words_in-in-Words.ensures
    (ap words_of (sym (tails_link bytes word_of b word_number))) (length-map es number_of) (λ y. refl)) ∙
    ap (λ s. Ok (sheet_plan (sheet_of s))) (sym c.in-Words.is))
