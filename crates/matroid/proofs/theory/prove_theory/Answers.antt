use Rattle.matroid.proofs.Free.{free_laws}
use Rattle.matroid.proofs.Growth.{grow, one_rank}
use Rattle.matroid.proofs.Greedy.{most_cheapest, greedy_cheapest}
use Rattle.matroid.proofs.Thresholds.{most_under, maximum_out}
use Rattle.matroid.proofs.Spans.{span_of_span}
use Rattle.matroid.proofs.Circuits.{circuit_is, circuit_unique}
use Rattle.matroid.proofs.theory.prove_theory.Goals as goal

pub returns : goal.returns
returns c = record {
  free = free_laws;
  augmentation = grow;
  rank = one_rank;
  thresholds = λ m laws v B b. (most_under m laws v B, most_cheapest m laws v B b);
  greedy = greedy_cheapest;
  maximum = λ m laws v S e C k f l h low B b. maximum_out m laws v B b S e C k f l h low;
  span = span_of_span;
  circuit = λ m laws S e h. (circuit_is m laws S e h, circuit_unique m laws S e h);
}
