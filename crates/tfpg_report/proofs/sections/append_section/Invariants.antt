use Rattle.std.proofs.Common.{◌≡◌, ◌++◌, take}
use Rattle.std.specs.List.{flat_map}
use Rattle.tfpg_report.specs.inside.Sections.{section_text}
use Rattle.tfpg_report.proofs.sections.append_section.Given as goal

-- the texts of the items so far stand after the old bytes
abbrev pub invariant-loop-finding : goal.invariant-loop-finding
invariant-loop-finding l = l.into.items ≡ l.fn.into.items ++ flat_map (section_text l.graph l.section) (take l.finding-index l.findings)
