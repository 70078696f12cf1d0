-- The entries that a survey starts with are proper. Assumes nothing.
use Rattle.std.proofs.Common.{ℕ, ltb, List}
use Rattle.std.proofs.lemmas.Bool.{cond_both}
use Rattle.entry.specs.declared.Entry.{Entry as Value}
use Rattle.entry.specs.Entries.{Known, Proper}
use Rattle.entry.specs.Held.{sheet}
use Rattle.survey.specs.States.{listed}
use Rattle.survey.proofs.Running.{sheet_proper}

pub listed_proper : (n : ℕ) (es : List Value) (i : ℕ) → Proper (listed n es i)
listed_proper n es i = cond_both (ltb i n) (sheet es i) (Known 0) Proper (λ t. sheet_proper es i) (λ t. tt)
