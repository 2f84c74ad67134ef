use Rattle.tfpg_graph.proofs.lemmas.reach.Reaches.{reach_is_closed, reach_is_least, reach_is_one}
use Rattle.tfpg_graph.proofs.laws.reach_is_the_least_closed_set.Goals as goal

pub returns : goal.returns
returns c = record {
  closed = λ graph set nodes is. reach_is_closed graph set nodes is;
  least = λ graph set nodes is. reach_is_least graph set nodes is;
  one = λ graph set nodes others is are. reach_is_one graph set nodes is others are;
}
