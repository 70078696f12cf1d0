use Rattle.matroid.specs.Questions.{marked}
use Rattle.routes.specs.Cores.{Tallied, EndsArePlaces}
use Rattle.routes.proofs.Numbered.{Walk}
use Rattle.routes.proofs.two_core.Stripping.new.Given as goal

abbrev pub invariant-loop-k : goal.invariant-loop-k
invariant-loop-k l =
    let k = l.k-iterator.a.a.start in
    record {
      can : (goal.iterator-loop-k).can_next l.k-iterator;
      finite : (goal.iterator-loop-k).is_finite l.k-iterator;
      walk : Walk l.routes l.marks k l.k-iterator.a.a.end l.k-iterator.a.b.rest.now l.k-iterator.b.rest.now;
      tallied : Tallied k l.routes (marked l.marks) l.places;
      places : EndsArePlaces k l.routes;
    }
