use Rattle.std.proofs.Common.{◌≡◌, ◌&&◌, true, false, rules, tests}
use Rattle.std.proofs.lemmas.Iterator.{first_from_Range}
use Rattle.entry.specs.Entries.{known}
use Rattle.entry.specs.Held.{sheet}
use Rattle.matroid.specs.Sets.{Elements}
use Rattle.matroid.specs.Questions.{marked}
use Rattle.promise.specs.Walks.{challenges}
use Rattle.walk.proofs.Searches.{first_is}
use Rattle.walk.proofs.ground.Ground.known_challenger.Goals as goal

pub returns : goal.returns
returns c =
    let n = c.args.self.now.n in
    let E = sheet c.args.self.now.entries.now in
    let C : Elements = λ i. challenges E (marked c.args.marks.now) c.args.f i && known (E i) in
    first_is C n c.find.result
    (first_from_Range (record { start = 0; end = n }) _ _ c.find.result (λ x. C x ≡ true) (λ x. C x ≡ false) c.find.ensures.ran (λ x q k. search (rules, tests)) (λ x q k. search (rules, tests)))
