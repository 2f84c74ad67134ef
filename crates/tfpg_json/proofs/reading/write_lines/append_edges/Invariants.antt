use Rattle.std.proofs.Common.{◌≡◌, ◌++◌, take}
use Rattle.std.specs.List.{flat_map}
use Rattle.tfpg_base.specs.Lines.{with_line_end}
use Rattle.tfpg_json.specs.GraphText.{edge_said_line}
use Rattle.tfpg_json.proofs.reading.write_lines.append_edges.Given as goal

-- the lines of the edges so far stand after the old bytes
abbrev pub invariant-loop-edge : goal.invariant-loop-edge
invariant-loop-edge l = l.into.items ≡ l.fn.into.items ++ flat_map (λ edge. with_line_end (edge_said_line edge)) (take l.edge-index l.edges)
