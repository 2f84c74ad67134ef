use Rattle.tfpg_search.proofs.lemmas.work.LimitThere.{limit_there, one_limit, unchanged_limit}
use Rattle.tfpg_search.proofs.laws.a_round_has_one_work_limit.Goals as goal

pub returns : goal.returns
returns c = record {
  there = limit_there c.facts_give_a_node_one_low_and_one_high.ensures.low c.facts_give_a_node_one_low_and_one_high.ensures.high;
  only_one = one_limit;
  unchanged = unchanged_limit;
}
