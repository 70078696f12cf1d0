-- Entries put into a table. Assumes nothing.
use Rattle.std.proofs.Common.{◌≡◌, ℕ, ◌<◌, ◌≤◌, min, ltb, List, ◌++◌, length, get_or, take, drop, replicate, sym, ap, ◌∙◌, ⊎_elim, arith}
use mathlib.Core.Path.{fun_ext}
use lib.ListN.{length-replicate}
use Rattle.std.proofs.Math.Seq.{get_or-append_right}
use Rattle.std.proofs.lemmas.Bool.{cases_lt, cond-true, cond-false, lt-ltb, le-ltb}
use Rattle.std.proofs.lemmas.List.{length-take, get_or_append_left, get_or-drop, get_or-take, get_or_past, get_or-replicate}
use Rattle.entry.specs.declared.Entry.{Entry as Value}
use Rattle.entry.specs.declared.Entry.TheVariants.{Known as KnownValue}
use Rattle.entry.specs.Entries.{Known}
use Rattle.entry.specs.Held.{held, sheet}
use Rattle.survey.specs.States.{listed}

-- the first entries of the list stand before places that are all known at 0
pub filled : (es front : List Value) (c n m : ℕ) → front ≡ take c es → c ≡ min (length es) n → sheet (front ++ drop c (replicate m (KnownValue 0))) ≡ listed n es
filled es front c n m f e = fun_ext (λ k. ⊎_elim (before k) (after k) (cases_lt k c))
  where
    count : length front ≡ c
    count = ap length f ∙ (length-take c es ∙ omega arith)

    none : (k : ℕ) → get_or (replicate m (KnownValue 0)) k (KnownValue 0) ≡ KnownValue 0
    none k = ⊎_elim
        (λ (h : k < m). get_or-replicate m k (KnownValue 0) (KnownValue 0) h)
        (λ (h : m ≤ k). get_or_past (replicate m (KnownValue 0)) k (KnownValue 0) (omega (arith, length-replicate m (KnownValue 0))))
        (cases_lt k m)

    before : (k : ℕ) → k < c → sheet (front ++ drop c (replicate m (KnownValue 0))) k ≡ listed n es k
    before k h =
        ap held (get_or_append_left front _ (KnownValue 0) k (omega (arith, count)) ∙ (ap (λ l. get_or l k (KnownValue 0)) f ∙ get_or-take c es k (KnownValue 0) h))
        ∙ sym (cond-true (ltb k n) (sheet es k) (Known 0) (lt-ltb k n (omega arith)))

    after : (k : ℕ) → c ≤ k → sheet (front ++ drop c (replicate m (KnownValue 0))) k ≡ listed n es k
    after k h =
        ap held (get_or-append_right front _ k (KnownValue 0) (omega (arith, count)) ∙ (get_or-drop c (replicate m (KnownValue 0)) _ (KnownValue 0) ∙ none _))
        ∙ ⊎_elim
        (λ (j : k < n). sym (cond-true (ltb k n) (sheet es k) (Known 0) (lt-ltb k n j) ∙ ap held (get_or_past es k (KnownValue 0) (omega arith))))
        (λ (j : n ≤ k). sym (cond-false (ltb k n) (sheet es k) (Known 0) (le-ltb k n j)))
        (cases_lt k n)
