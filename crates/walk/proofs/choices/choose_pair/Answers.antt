use Rattle.std.proofs.Common.{ℕ, ◌≤◌, Bool, arith}
use Rattle.std.proofs.lemmas.Bool.Decides.{nat_tests}
use Rattle.entry.specs.Entries.{Entry}
use Rattle.entry.specs.Held.{sheet}
use Rattle.matroid.specs.Sets.{Elements, lowest}
use Rattle.matroid.specs.Questions.{marked}
use Rattle.matroid.proofs.Members.{lowest_cases}
use Rattle.promise.specs.Walks.{rival}
use Rattle.walk.proofs.Searches.{found_or}
use Rattle.walk.proofs.choices.choose_pair.Goals as goal

lowest_upto : (n : ℕ) (p : ℕ → Bool) → lowest n p ≤ n
lowest_upto n p = grind (arith, lowest_cases n p)

rival_upto : (n : ℕ) (E : ℕ → Entry) (C : Elements) (f : ℕ) → rival n E C f ≤ n
rival_upto n E C f = grind (arith, nat_tests, lowest_upto)

pub returns-clause-topmost : goal.returns-clause-topmost
returns-clause-topmost c = found_or _ _ _ _ (lowest_upto _ _) c.topmost.ensures c.unwrap_or-f.ensures

pub returns-clause-rival : goal.returns-clause-rival
returns-clause-rival c = found_or _ _ _ _ (rival_upto _ (sheet c.args.entries.now) (marked c.args.marks.now) c.unwrap_or-f.result) c.rival.ensures c.unwrap_or-g.ensures
