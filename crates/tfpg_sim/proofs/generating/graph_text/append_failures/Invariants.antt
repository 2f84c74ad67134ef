use Rattle.std.proofs.Common.{◌≡◌, ◌++◌}
use Rattle.std.specs.List.{flat_map}
use Rattle.tfpg_sim.specs.Generated.{failure_kinds, named_nodes}
use Rattle.tfpg_graph.specs.declared.version.Version.TheVariants.{One}
use Rattle.tfpg_graph.specs.Text.{node_text}
use Rattle.tfpg_sim.proofs.generating.graph_text.append_failures.Given as goal

-- the lines of the failure modes so far stand after the old bytes
abbrev pub invariant-loop-index : goal.invariant-loop-index
invariant-loop-index l = l.into.items ≡ l.fn.into.items ++ flat_map (node_text One) (named_nodes 0 (failure_kinds l.index))
