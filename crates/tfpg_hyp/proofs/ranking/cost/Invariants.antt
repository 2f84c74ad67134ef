use Rattle.std.proofs.Common.{◌≡◌, ◌≤◌, ◌*◌}
use Rattle.std.specs.List.{sum_by}
use Rattle.tfpg_hyp.specs.Ranking.{rarity_at}
use Rattle.tfpg_base.proofs.lemmas.lists.Below.{below}
use Rattle.tfpg_graph.specs.declared.limits.TheConstants.{MAX_RARITY}
use Rattle.tfpg_hyp.proofs.ranking.cost.Given as goal

abbrev pub invariant-loop-position : goal.invariant-loop-position
invariant-loop-position l = (l.cost ≡ sum_by (rarity_at l.graph) (below l.position l.set)) × (l.cost ≤ l.position * MAX_RARITY)
