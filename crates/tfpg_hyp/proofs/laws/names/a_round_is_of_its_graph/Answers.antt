use Rattle.tfpg_hyp.proofs.lemmas.RoundOfGraph.{round_of}
use Rattle.tfpg_hyp.proofs.laws.names.a_round_is_of_its_graph.Goals as goal

pub returns : goal.returns
returns c = λ graph terms line rounds log round of is_round. round_of graph terms line rounds log round of is_round
