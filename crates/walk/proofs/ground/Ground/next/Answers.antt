use Rattle.std.proofs.Common.{◌≡◌, ℕ, ◌<◌, Bool, true, false, not, refl, arith, rules, tests}
use Rattle.std.proofs.lemmas.Bool.Decides.{nat_tests}
use Rattle.std.proofs.lemmas.Iterator.{YieldsList-from_range}
use Rattle.std.proofs.lemmas.Iterator.Consumers.{YieldsList-from_filter}
use Rattle.entry.specs.Entries.{Entry}
use Rattle.entry.specs.Held.{sheet}
use Rattle.matroid.specs.Questions.{marked}
use Rattle.promise.specs.Walks.{earlier}
use Rattle.promise.proofs.Orders.{no_later}
use Rattle.walk.proofs.Searches.{picked, best_is}
use Rattle.walk.proofs.ground.Ground.next.Goals as goal

most : (E : ℕ → Entry) (m j : ℕ) → earlier E j m ≡ false → no_later E m j ≡ true
most E m j h = grind (arith, nat_tests)

first : (E : ℕ → Entry) (m j : ℕ) → j < m → earlier E j m ≡ false → no_later E j m ≡ false
first E m j l h = grind (arith, nat_tests)

pub returns : goal.returns
returns c =
    let n = c.args.self.now.n in
    let E = sheet c.args.self.now.entries.now in
    let T : ℕ → Bool = marked c.args.taken.now in
    let C : ℕ → Bool = λ j. not (T j) in
    best_is C T (no_later E) (earlier E) (λ j. refl) (most E) (first E) n c.min_by_key.result
    (picked _ C (earlier E) n
    (YieldsList-from_filter _ C (YieldsList-from_range 0 n n c.filter.ensures.source (omega arith)) c.filter.ensures.closure (λ x b q k. search (rules, tests)))
    (λ x k h e. search rules) (λ m x k j a b h. search (rules, tests)) c.min_by_key.result c.min_by_key.ensures.runs)
