use Rattle.std.proofs.Common.{◌≡◌, ◌++◌, take}
use Rattle.std.specs.List.{flat_map}
use Rattle.tfpg_base.specs.Lines.{with_line_end}
use Rattle.tfpg_graph.specs.Text.{mode_line}
use Rattle.tfpg_json.proofs.reading.write_lines.append_modes.Given as goal

-- the lines of the modes so far stand after the old bytes
abbrev pub invariant-loop-name : goal.invariant-loop-name
invariant-loop-name l = l.into.items ≡ l.fn.into.items ++ flat_map (λ name. with_line_end (mode_line name.now)) (take l.name-index l.names)
