use Rattle.std.proofs.Common.{◌≡◌, ◌++◌, take}
use Rattle.std.specs.List.{flat_map}
use Rattle.tfpg_report.specs.inside.LineNames.{activation_text}
use Rattle.tfpg_report.proofs.ranked_lines.append_activations.Given as goal

-- the texts of the items so far stand after the old bytes
abbrev pub invariant-loop-activation : goal.invariant-loop-activation
invariant-loop-activation l = l.into.items ≡ l.fn.into.items ++ flat_map (activation_text l.graph) (take l.activation-index l.trace)
