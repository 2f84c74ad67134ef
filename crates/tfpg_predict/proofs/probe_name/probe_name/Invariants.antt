use Rattle.std.proofs.Common.{◌≡◌, ℕ, ◌+◌, ◌-◌, ◌<◌, None}
use Rattle.tfpg_graph.specs.declared.limits.TheConstants.{MAX_NODES}
use Rattle.tfpg_graph.specs.Graph.{node_named}
use Rattle.tfpg_predict.specs.Probed.{probe_word}
use Rattle.tfpg_predict.proofs.probe_name.probe_name.Given as goal

-- the name is that of the number, and the names of all lesser numbers are taken
abbrev pub invariant-loop-number : goal.invariant-loop-number
invariant-loop-number l = record {
  named : l.name.items ≡ probe_word l.number;
  taken : (lesser : ℕ) → lesser < l.number → node_named l.graph (probe_word lesser) ≡ None → ⊥;
}

abbrev pub decreases-loop-number : goal.decreases-loop-number
decreases-loop-number l = MAX_NODES + 1 - l.number
