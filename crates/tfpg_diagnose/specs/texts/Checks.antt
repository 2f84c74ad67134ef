-- Judging a report, where graph, log and report are texts.
use Rattle.std.specs.Prelude.{◌≡◌, ◌⊎◌, ◌<◌, ◌≤◌, ℕ, List, Some, slice_get, length}
use Rattle.tfpg_base.specs.declared.terms.Terms.{Terms}
use Rattle.tfpg_base.specs.declared.limits.TheConstants.{LONGEST_FILE, MAX_BYTES}
use Rattle.tfpg_base.specs.Lines.{lines_of}
use Rattle.tfpg_graph.specs.Graph.{Tfpg}
use Rattle.tfpg_graph.specs.Faults.{IsFirstFault}
use Rattle.tfpg_hyp.specs.Hypotheses.{HasHypotheses}
use Rattle.tfpg_hyp.specs.declared.limits.TheConstants.{MAX_HYPOTHESES}
use Rattle.tfpg_report.specs.declared.report_line.ReportLine.{ReportLine}
use Rattle.tfpg_report.specs.ReportLines.{Says}
use Rattle.tfpg_report.specs.Reading.{IsHead}
use Rattle.tfpg_check.specs.declared.cause.CheckCause.{CheckCause}
use Rattle.tfpg_check.specs.Causes.{AreAcceptedLines, DiagnosisProblem, IsCause}
use Rattle.tfpg_diagnose.specs.declared.texts.fault.CheckTextsFault.{CheckTextsFault}
use Rattle.tfpg_diagnose.specs.declared.texts.fault.CheckTextsFault.TheVariants.{Graph, NotAccepted, TooManyHypotheses, TooMuchInput, NoMemory}
use Rattle.tfpg_diagnose.specs.JudgedReports.{problem_of}
use Rattle.tfpg_diagnose.specs.texts.Opening.{GivesGraphOf}

-- what is judged: the text of a report, by those of a graph and a log
pub record CheckedTexts : Type 0 where
  pub graph : List ℕ
  pub log : List ℕ
  pub report : List ℕ

-- these three
abbrev pub checked_texts : List ℕ → List ℕ → List ℕ → CheckedTexts
checked_texts graph log report = record { graph = graph; log = log; report = report }

-- This holds of the graph that the one text spells with the lines of the log, and of the lines of the report.
pub record HoldsOfTexts (texts : CheckedTexts) (Holds : DiagnosisProblem → List (List ℕ) → Type 0) : Type 0 where
  pub graph : Tfpg
  pub gives : GivesGraphOf texts.graph graph
  pub holds : Holds (problem_of graph texts.log) (lines_of texts.report)

-- The first line gives more than 4,096 hypotheses, exactly this many.
pub record HaveTooManyInFirst (problem : DiagnosisProblem) (lines : List (List ℕ)) (count : ℕ) : Type 0 where
  pub first : List ℕ
  pub at : slice_get lines 0 ≡ Some first
  pub head : ReportLine
  pub says : Says problem.graph head first
  pub terms : Terms
  pub is_head : IsHead terms head
  pub too_many : MAX_HYPOTHESES < count
  pub counted : HasHypotheses problem.graph terms count

-- The report is accepted, with so many rounds.
abbrev pub IsAcceptedText : CheckedTexts → ℕ → Type 0
IsAcceptedText texts rounds = HoldsOfTexts texts (λ problem lines. AreAcceptedLines problem lines rounds)

-- This is the cause for which it is not, at this line.
abbrev pub IsRefusedText : CheckedTexts → ℕ → CheckCause → Type 0
IsRefusedText texts line cause = HoldsOfTexts texts (λ problem lines. IsCause problem lines line cause)

-- The first line of the report gives too many hypotheses, exactly this many.
abbrev pub HasTooManyInText : CheckedTexts → ℕ → Type 0
HasTooManyInText texts count = HoldsOfTexts texts (λ problem lines. HaveTooManyInFirst problem lines count)

-- The log is short enough to be read.
abbrev pub HasShortLog : CheckedTexts → Type 0
HasShortLog texts = length texts.log ≤ LONGEST_FILE

-- Why a report is not accepted, the first of these that holds: the log has more than 2^24 bytes; or this is the first fault of the graph's
-- text; or, of the report, this is the cause at this line, or its first line gives too many hypotheses, or it has more than 2^32 bytes. Or
-- memory ran out.
abbrev pub IsCheckTextsFault : CheckedTexts → CheckTextsFault → Type 0
IsCheckTextsFault texts (Graph fault) = HasShortLog texts × IsFirstFault texts.graph fault
IsCheckTextsFault texts (NotAccepted line cause) = HasShortLog texts × IsRefusedText texts line cause
IsCheckTextsFault texts (TooManyHypotheses count) = HasShortLog texts × HasTooManyInText texts count
IsCheckTextsFault texts TooMuchInput =
    (LONGEST_FILE < length texts.log) ⊎ (HasShortLog texts × HoldsOfTexts texts (λ problem lines. MAX_BYTES < length texts.report))
IsCheckTextsFault texts NoMemory = Unit {0}

-- The texts are short enough to be judged.
pub record AreShort (texts : CheckedTexts) : Type 0 where
  pub log : length texts.log ≤ LONGEST_FILE
  pub report : length texts.report ≤ MAX_BYTES

-- Nothing but memory stands in the way of accepting the report.
pub record CanAccept (texts : CheckedTexts) : Type 0 where
  pub short : AreShort texts
  pub rounds : ℕ
  pub accepted : IsAcceptedText texts rounds

-- Nothing but memory stands in the way of this fault. Of a report of more than 2^32 bytes it is left open which one is found.
abbrev pub CanRefuseText : CheckedTexts → CheckTextsFault → Type 0
CanRefuseText texts (Graph fault) = HasShortLog texts × IsFirstFault texts.graph fault
CanRefuseText texts (NotAccepted line cause) = AreShort texts × IsRefusedText texts line cause
CanRefuseText texts (TooManyHypotheses count) = AreShort texts × HasTooManyInText texts count
CanRefuseText texts TooMuchInput = LONGEST_FILE < length texts.log
CanRefuseText texts NoMemory = ⊥
