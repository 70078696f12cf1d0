use Rattle.std.proofs.Common.{◌≡◌, ℕ, ◌<◌, ◌≤◌, true, false, Some, None, Option, sym, ◌∙◌, rules, tests, arith}
use Rattle.std.specs.Option.{MatchOption}
use Rattle.std.proofs.lemmas.Iterator.{YieldsList-from_range, YieldsList-from_map}
use Rattle.std.proofs.lemmas.Iterator.Adapters.{option_map_id}
use Rattle.std.proofs.lemmas.Iterator.Consumers.{YieldsList-at, YieldsList-from_filter, max_from_yields_List}
use Rattle.entry.specs.Entries.{Entry, high}
use Rattle.entry.specs.Held.{sheet}
use Rattle.matroid.specs.Sets.{Elements}
use Rattle.matroid.specs.Questions.{marked}
use Rattle.walk.specs.Walked.{Highest}
use Rattle.walk.proofs.Searches.{top_all}
use Rattle.walk.proofs.ground.Ground.highest.Goals as goal

told_highest : (n : ℕ) (E : ℕ → Entry) (C : Elements) (o : Option ℕ)
    → MatchOption o ((i : ℕ) → i < n → C i ≡ false) (λ r. ((j : ℕ) → j < n → C j ≡ true → high (E j) ≤ r) × ((i : ℕ) × (i < n) × (C i ≡ true) × (high (E i) ≡ r))) → Highest n E C o
told_highest n E C None t = t
told_highest n E C (Some h) t = t

pub returns : goal.returns
returns c =
    let n = c.args.self.now.n in
    let C : Elements = marked c.args.marks.now in
    let h : ℕ → ℕ = λ i. high (sheet c.args.self.now.entries.now i) in
    told_highest n (sheet c.args.self.now.entries.now) C c.max.result
    (top_all C h n c.max.result
    (sym (option_map_id _) ∙ max_from_yields_List c.map.result _ c.max.ensures.ran
    (YieldsList-from_map _ h
    (YieldsList-at c.map.ensures.source
    (YieldsList-from_filter _ C (YieldsList-from_range 0 n n c.filter.ensures.source (omega arith)) c.filter.ensures.closure (λ x b q k. search (rules, tests))))
    c.map.ensures.closure (λ x r q k. search (rules, tests)))))
