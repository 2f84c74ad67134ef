-- The report of a log, where graph and log are texts.
use Rattle.std.specs.Prelude.{◌≡◌, ◌<◌, ◌≤◌, ℕ, List, [], length, flat_map}
use Rattle.tfpg_base.specs.declared.terms.Terms.{Terms}
use Rattle.tfpg_base.specs.declared.limits.TheConstants.{MAX_BYTES}
use Rattle.tfpg_base.specs.Lines.{lines_of}
use Rattle.tfpg_base.specs.Terms.{AreReportTerms}
use Rattle.tfpg_graph.specs.Graph.{Tfpg}
use Rattle.tfpg_graph.specs.Faults.{IsFirstFault}
use Rattle.tfpg_report.specs.Blocks.{Block}
use Rattle.tfpg_check.specs.Report.{IsReport}
use Rattle.tfpg_diagnose.specs.declared.texts.fault.ReportFault.{ReportFault}
use Rattle.tfpg_diagnose.specs.declared.texts.fault.ReportFault.TheVariants.{OutOfRange, Graph, TooManyHypotheses, TooMuchInput, NoMemory}
use Rattle.tfpg_diagnose.specs.RightReport.{RoundsSay}
use Rattle.tfpg_diagnose.specs.TellsPanels.{losses_in}
use Rattle.tfpg_diagnose.specs.texts.Opening.{CanOpen, GivesGraphOf, GivesTooMany}

-- The bytes are what a diagnosis of the graph on these terms that tells no panel writes for these lines: a report of theirs, each of whose
-- rounds says what a round says. No panel is lost at one.
pub record IsPlainReport (graph : Tfpg) (terms : Terms) (lines : List (List ℕ)) (bytes : List ℕ) : Type 0 where
  pub blocks : List Block
  pub report : IsReport graph terms lines blocks bytes
  pub say : RoundsSay graph terms lines blocks
  pub no_losses : flat_map losses_in blocks ≡ []

-- They are that for the graph that the one text spells, and for the lines of the other.
pub record IsReportOfTexts (graph_text : List ℕ) (terms : Terms) (log_text bytes : List ℕ) : Type 0 where
  pub graph : Tfpg
  pub gives : GivesGraphOf graph_text graph
  pub report : IsPlainReport graph terms (lines_of log_text) bytes

-- Why there is no report, the first of these that holds: there is no diagnosis, as `IsOpenFault` says; or the log has more than 2^32
-- bytes. Or memory ran out.
abbrev pub IsReportFault : List ℕ → Terms → List ℕ → ReportFault → Type 0
IsReportFault graph_text terms log_text OutOfRange = AreReportTerms terms → ⊥
IsReportFault graph_text terms log_text (Graph fault) = AreReportTerms terms × IsFirstFault graph_text fault
IsReportFault graph_text terms log_text (TooManyHypotheses count) = AreReportTerms terms × GivesTooMany graph_text terms count
IsReportFault graph_text terms log_text TooMuchInput = CanOpen graph_text terms × (MAX_BYTES < length log_text)
IsReportFault graph_text terms log_text NoMemory = Unit {0}

-- Nothing but memory stands in the way of a report of these texts.
pub record CanReport (graph_text : List ℕ) (terms : Terms) (log_text : List ℕ) : Type 0 where
  pub opens : CanOpen graph_text terms
  pub few : length log_text ≤ MAX_BYTES
