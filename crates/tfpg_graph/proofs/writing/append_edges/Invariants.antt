use Rattle.std.proofs.Common.{◌≡◌, ◌++◌, take}
use Rattle.std.specs.List.{flat_map}
use Rattle.tfpg_graph.specs.inside.writing.Written.{edge_text}
use Rattle.tfpg_graph.proofs.writing.append_edges.Given as goal

-- the lines of the edges so far stand after the old bytes
abbrev pub invariant-loop-number : goal.invariant-loop-number
invariant-loop-number l = l.into.items ≡ l.fn.into.items ++ flat_map (edge_text l.graph) (take l.number l.graph.edges)
