use Rattle.std.proofs.Common.{◌≡◌, ◌++◌, take}
use Rattle.std.specs.List.{flat_map}
use Rattle.tfpg_graph.specs.Text.{node_text}
use Rattle.tfpg_graph.specs.declared.version.Version.TheVariants.{Two}
use Rattle.tfpg_json.proofs.reading.write_lines.append_nodes.Given as goal

-- the lines of the nodes so far stand after the old bytes
abbrev pub invariant-loop-node : goal.invariant-loop-node
invariant-loop-node l = l.into.items ≡ l.fn.into.items ++ flat_map (node_text Two) (take l.node-index l.nodes)
