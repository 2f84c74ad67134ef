use Rattle.std.proofs.Common.{◌≡◌, ◌++◌, take}
use Rattle.std.specs.List.{flat_map}
use Rattle.tfpg_sim.specs.Generated.{named_nodes}
use Rattle.tfpg_graph.specs.declared.version.Version.TheVariants.{One}
use Rattle.tfpg_graph.specs.Text.{node_text}
use Rattle.tfpg_sim.specs.declared.limits.TheConstants.{FAILURE_COUNT}
use Rattle.tfpg_sim.proofs.generating.graph_text.append_discrepancies.Given as goal

-- the lines of the discrepancies so far stand after the old bytes
abbrev pub invariant-loop-index : goal.invariant-loop-index
invariant-loop-index l = l.into.items ≡ l.fn.into.items ++ flat_map (node_text One) (named_nodes FAILURE_COUNT (take l.index l.kinds))
