use Rattle.std.proofs.Common.{◌≡◌, ◌++◌, take}
use Rattle.std.specs.List.{flat_map}
use Rattle.tfpg_graph.specs.inside.writing.Written.{mode_text}
use Rattle.tfpg_graph.proofs.writing.append_modes.Given as goal

-- the lines of the modes so far stand after the old bytes
abbrev pub invariant-loop-mode : goal.invariant-loop-mode
invariant-loop-mode l = l.into.items ≡ l.fn.into.items ++ flat_map mode_text (take l.mode l.graph.modes)
