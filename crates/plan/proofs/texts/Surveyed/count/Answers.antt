use Rattle.std.proofs.Common.{Bool, rules, take, ◌∙◌}
use borrow.Author.Tests.{tests}
use Rattle.std.proofs.lemmas.Iterator.{YieldsList-from_slice, YieldsList-from_take}
use Rattle.std.proofs.lemmas.Iterator.Consumers.{YieldsList-at, YieldsList-from_filter, count_from_yields_List}
use Rattle.std.proofs.lemmas.List.Sums.{length-filter}
use Rattle.plan.proofs.Keeping.{count_marked}
use Rattle.plan.proofs.texts.Surveyed.count.Goals as goal

pub returns : goal.returns
returns g c =
    let marks = c.args.self.now.marks.now in
    let n = c.args.self.now.n in
    count_from_yields_List c.filter-kept.result c.count.result c.count.ensures.ran
    (YieldsList-from_filter _ (λ (b : Bool). b)
    (YieldsList-at c.filter-kept.ensures.source (YieldsList-from_take n (YieldsList-at c.take.ensures.source (YieldsList-from_slice marks c.iter.ensures.rest)) (c.take.ensures.count ∙ c.from.ensures)))
    c.filter-kept.ensures.closure (λ x b q k. search (rules, tests))) ∙
    (length-filter (λ (b : Bool). b) (take n marks) ∙ count_marked n marks)
