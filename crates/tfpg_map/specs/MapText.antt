-- The text of a map as the program writes it.
use Rattle.std.specs.Prelude.{ℕ, List, ◌++◌, map}
use Rattle.tfpg_base.specs.declared.activation.Activation.{Activation}
use Rattle.tfpg_base.specs.Hypothesis.{Hypothesis}
use Rattle.tfpg_base.specs.Lines.{with_line_end}
use Rattle.tfpg_graph.specs.Graph.{Tfpg}
use Rattle.tfpg_report.specs.declared.report_line.ReportLine.TheVariants.{At}
use Rattle.tfpg_report.specs.ReportLines.{lines_text}
use Rattle.tfpg_map.specs.Spelling.{set_line}

-- the line of the set, and then the line of each activation of the trace, in its order
abbrev pub map_text : Tfpg → Hypothesis → List Activation → List ℕ
map_text graph hypothesis trace = with_line_end (set_line graph hypothesis) ++ lines_text graph (map At trace)
