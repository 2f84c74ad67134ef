use Rattle.std.proofs.Common.{◌≡◌, ◌++◌, take}
use Rattle.std.specs.List.{flat_map}
use Rattle.tfpg_report.specs.inside.Texts.{reason_text}
use Rattle.tfpg_report.proofs.step_lines.append_reasons.Given as goal

-- the texts of the items so far stand after the old bytes
abbrev pub invariant-loop-reason : goal.invariant-loop-reason
invariant-loop-reason l = l.into.items ≡ l.fn.into.items ++ flat_map (reason_text l.graph) (take l.reason-index l.reasons)
