use Rattle.std.proofs.Common.{◌≡◌, ◌++◌, take}
use Rattle.std.specs.List.{flat_map}
use Rattle.tfpg_report.specs.inside.Numbered.{numbered_text}
use Rattle.tfpg_report.proofs.ranked_lines.append_all_ranked.Given as goal

-- the texts of the items so far stand after the old bytes
abbrev pub invariant-loop-number : goal.invariant-loop-number
invariant-loop-number l = l.into.items ≡ l.fn.into.items ++ flat_map (numbered_text l.graph l.findings) (take l.number-index l.order)
