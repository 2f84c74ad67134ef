use Rattle.tfpg_clause.proofs.lemmas.constraints.OneLowOneHigh.{low_there, high_there, one_low, one_high}
use Rattle.tfpg_clause.proofs.laws.facts_give_a_node_one_low_and_one_high.Goals as goal

pub returns : goal.returns
returns c = record {
  low = low_there;
  high = high_there;
  one_low = one_low;
  one_high = one_high;
}
