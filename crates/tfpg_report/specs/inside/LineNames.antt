-- Short names for lines that proofs take apart.
use Rattle.std.specs.Prelude.{ℕ, List}
use Rattle.tfpg_base.specs.declared.activation.Activation.{Activation}
use Rattle.tfpg_base.specs.Lines.{with_line_end}
use Rattle.tfpg_graph.specs.Graph.{Tfpg}
use Rattle.tfpg_evidence.specs.declared.finding.Finding.{Finding}
use Rattle.tfpg_evidence.specs.Findings.{hypothesis_of}
use Rattle.tfpg_report.specs.declared.report_line.ReportLine.{ReportLine}
use Rattle.tfpg_report.specs.declared.report_line.ReportLine.TheVariants.{At, Open, Rejected, Panel}
use Rattle.tfpg_report.specs.Blocks.{Loss}
use Rattle.tfpg_report.specs.ReportLines.{written_line}

-- the line of an open hypothesis
abbrev pub open_line : Finding → ReportLine
open_line finding = Open finding.number (hypothesis_of finding)

-- the line of a hypothesis that this round rejected
abbrev pub rejected_line : Finding → ReportLine
rejected_line finding = Rejected finding.number (hypothesis_of finding)

-- the line of a panel that was lost, or for which memory ran out
abbrev pub loss_line : Loss → ReportLine
loss_line loss = Panel loss.panel loss.memory

-- the line of an activation, as it is written
abbrev pub activation_line : Tfpg → Activation → List ℕ
activation_line graph activation = written_line graph (At activation)

-- the line of an activation, with its line end
abbrev pub activation_text : Tfpg → Activation → List ℕ
activation_text graph activation = with_line_end (activation_line graph activation)
