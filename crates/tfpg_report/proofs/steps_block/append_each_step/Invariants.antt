use Rattle.std.proofs.Common.{◌≡◌, ◌++◌, take}
use Rattle.std.specs.List.{flat_map}
use Rattle.tfpg_report.specs.inside.Texts.{step_text}
use Rattle.tfpg_report.proofs.steps_block.append_each_step.Given as goal

-- the texts of the items so far stand after the old bytes
abbrev pub invariant-loop-step : goal.invariant-loop-step
invariant-loop-step l = l.into.items ≡ l.fn.into.items ++ flat_map (step_text l.graph) (take l.step-index l.steps)
