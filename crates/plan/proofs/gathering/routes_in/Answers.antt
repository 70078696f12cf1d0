use Rattle.std.proofs.Common.{◌≡◌, ℕ, map, Ok, vec_items, vec_len, rules, ◌∙◌}
use Rattle.std.proofs.lemmas.Iterator.{YieldsList-from_map, YieldsList-from_slice, items_from_collect}
use Rattle.std.proofs.lemmas.Iterator.Consumers.{YieldsList-at}
use Rattle.plan.specs.Meanings.{tail_of}
use Rattle.plan.proofs.gathering.routes_in.Goals as goal

pub returns : goal.returns
returns c small fed =
    let n = vec_len c.in_ok-routes.routes in
    let es = vec_items c.args.body.now.elements in
    let made : vec_items c.in_ok-routes.routes ≡ map tail_of es =
    items_from_collect {E = ℕ} (Ok c.in_ok-routes.routes) c.in_ok-routes.ensures.ran
    (YieldsList-from_map _ tail_of (YieldsList-at c.map.ensures.source (YieldsList-from_slice es (c.iter.ensures.rest ∙ c.deref.ensures.value))) c.map.ensures.closure (λ x r q k. search rules)) in
    search rules
