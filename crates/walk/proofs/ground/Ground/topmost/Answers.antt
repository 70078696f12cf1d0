use Rattle.std.proofs.Common.{◌≡◌, ◌∙◌, ℕ, ◌<◌, ◌≤◌, true, false, not, ◌&&◌, ◌||◌, eqb, leb, Some, None, Option, rules, tests, arith}
use Rattle.std.specs.Option.{MatchOption}
use Rattle.std.proofs.lemmas.Bool.{both_ways, and_from, eq-eqb}
use Rattle.std.proofs.lemmas.Bool.Decides.{nat_tests}
use Rattle.std.proofs.lemmas.Iterator.{first_from_Range}
use Rattle.entry.specs.Entries.{Entry, high}
use Rattle.entry.specs.Held.{sheet}
use Rattle.matroid.specs.Sets.{Elements, every}
use Rattle.matroid.specs.Questions.{marked}
use Rattle.matroid.proofs.Members.{every_from, every_not, lowest_none, lowest_is}
use Rattle.promise.specs.Walks.{topmost}
use Rattle.walk.specs.Walked.{Highest, found}
use Rattle.walk.proofs.ground.Ground.topmost.Goals as goal

none_topmost : (n : ℕ) (E : ℕ → Entry) (C : Elements) → Highest n E C None → None ≡ found n (topmost n E C)
none_topmost n E C t =
    let e = lowest_none n (λ i. C i && every n (λ j. not (C j) || leb (high (E j)) (high (E i)))) (λ i l. grind (arith, nat_tests, t i l)) in
    grind (arith, nat_tests)

-- the first member with the largest high is the topmost
with_highest : (n : ℕ) (E : ℕ → Entry) (C : Elements) (h : ℕ) → Highest n E C (Some h) → (o : Option ℕ)
    → MatchOption o ((k : ℕ) → 0 ≤ k → k < n → (C k && eqb (high (E k)) h) ≡ false)
    (λ i. (0 ≤ i) × (i < n) × ((C i && eqb (high (E i)) h) ≡ true) × ((k : ℕ) → 0 ≤ k → k < i → (C k && eqb (high (E k)) h) ≡ false))
    → o ≡ found n (topmost n E C)
with_highest n E C h t None f =
    let a = t.1 in
    absurd (both_ways (C a.0 && eqb (high (E a.0)) h) (f a.0 (omega arith) a.1) (and_from (C a.0) (eqb (high (E a.0)) h) a.2 (eq-eqb (high (E a.0)) h a.3)))
with_highest n E C h t (Some m) f =
    let b = f.1 in
    let e =
    lowest_is n (λ i. C i && every n (λ j. not (C j) || leb (high (E j)) (high (E i)))) m f.1
    (grind (arith, nat_tests, f.2, every_from n (λ j. not (C j) || leb (high (E j)) (high (E m))) (λ j l. grind (arith, nat_tests, f.2, t.0 j l))))
    (λ i l. grind (arith, nat_tests, f.2, f.3 i (omega arith) l, t.0 i (omega arith), every_not n (λ j. not (C j) || leb (high (E j)) (high (E i))) m f.1)) in
    grind (arith, nat_tests)

pub returns-in_err-highest : goal.returns-in_err-highest
returns-in_err-highest c =
    c.from_residual.ensures ∙ none_topmost c.args.self.now.n (sheet c.args.self.now.entries.now) (marked c.args.marks.now) c.in_err-highest.ensures

pub returns : goal.returns
returns c =
    let n = c.args.self.now.n in
    let E = sheet c.args.self.now.entries.now in
    let C : Elements = marked c.args.marks.now in
    let h = c.in_ok-highest.highest in
    with_highest n E C h c.in_ok-highest.ensures c.find.result
    (first_from_Range (record { start = 0; end = n }) _ _ c.find.result (λ x. (C x && eqb (high (E x)) h) ≡ true) (λ x. (C x && eqb (high (E x)) h) ≡ false) c.find.ensures.ran (λ x q k. search (rules, tests)) (λ x q k. search (rules, tests)))
