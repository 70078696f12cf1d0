use Rattle.kinds.proofs.Binary.{binary_laws, binary_words}
use Rattle.kinds.proofs.BinaryCircuits.{binary_circuit}
use Rattle.kinds.proofs.Words.{words_laws, words_words, words_circuit}
use Rattle.kinds.proofs.Routes.{routes_laws, routes_words, routes_circuit}
use Rattle.kinds.proofs.Lots.{lots_laws, lots_words}
use Rattle.kinds.proofs.LotCircuits.{lots_circuit}
use Rattle.kinds.proofs.prove_theory.Goals as goal

pub returns : goal.returns
returns c = record {
  laws = record { of_binary = binary_laws; of_words = words_laws; of_routes = routes_laws; of_lots = lots_laws };
  independence = record { of_binary = binary_words; of_words = words_words; of_routes = routes_words; of_lots = lots_words };
  circuits = record { of_binary = binary_circuit; of_words = words_circuit; of_routes = routes_circuit; of_lots = lots_circuit };
}
