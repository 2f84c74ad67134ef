use Rattle.std.proofs.Common.{◌≡◌, ◌++◌, take}
use Rattle.std.specs.List.{flat_map}
use Rattle.tfpg_sim.specs.inside.GraphText.{edge_text_by_number}
use Rattle.tfpg_sim.proofs.generating.graph_text.append_edges_by_number.Given as goal

-- the lines of the edges so far stand after the old bytes
abbrev pub invariant-loop-edge : goal.invariant-loop-edge
invariant-loop-edge l = l.into.items ≡ l.fn.into.items ++ flat_map edge_text_by_number (take l.edge-index l.edges)
