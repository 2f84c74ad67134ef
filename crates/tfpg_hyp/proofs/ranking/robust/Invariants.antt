use Rattle.std.proofs.Common.{◌≤◌}
use Rattle.tfpg_base.proofs.lemmas.lists.Below.{below}
use Rattle.tfpg_hyp.proofs.lemmas.Ranks.{AreCounted}
use Rattle.tfpg_hyp.proofs.ranking.robust.Given as goal

abbrev pub invariant-loop-node : goal.invariant-loop-node
invariant-loop-node l = AreCounted l.graph l.log l.fn.doubts (below l.node l.reach) l.alarmed l.monitored × (l.alarmed ≤ l.monitored) × (l.monitored ≤ l.node)
