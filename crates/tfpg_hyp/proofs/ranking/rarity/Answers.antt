use Rattle.tfpg_hyp.proofs.lemmas.Ranks.{rarity_small}
use Rattle.tfpg_hyp.proofs.ranking.rarity.Goals as goal

pub returns-in-Failure-clause-small : goal.returns-in-Failure-clause-small
returns-in-Failure-clause-small c = rarity_small c.args.graph.now c.failure_node.result c.in-Failure.rarity c.is_always_valid.ensures.valid c.in-Failure.ensures
