-- The questions after a log, where graph and log are texts.
use Rattle.std.specs.Prelude.{◌<◌, ◌≤◌, ℕ, List, length}
use Rattle.tfpg_base.specs.declared.terms.Terms.{Terms}
use Rattle.tfpg_base.specs.declared.limits.TheConstants.{LONGEST_FILE}
use Rattle.tfpg_base.specs.Terms.{AreReportTerms}
use Rattle.tfpg_graph.specs.Graph.{Tfpg}
use Rattle.tfpg_graph.specs.Faults.{IsFirstFault}
use Rattle.tfpg_diagnose.specs.texts.Opening.{CanOpen, GivesGraphOf, GivesTooMany}
use Rattle.tfpg_answers.specs.Questions.{HasQuestions}
use Rattle.tfpg_answers.specs.declared.texts.fault.AskTextsFault.{AskTextsFault}
use Rattle.tfpg_answers.specs.declared.texts.fault.AskTextsFault.TheVariants.{OutOfRange, TooMuchInput, Graph, TooManyHypotheses, NoMemory}

-- The text says which questions would tell most after the lines of the log, for the graph that the one text spells.
pub record HasQuestionsOfTexts (graph_text : List ℕ) (terms : Terms) (log_text text : List ℕ) : Type 0 where
  pub graph : Tfpg
  pub gives : GivesGraphOf graph_text graph
  pub questions : HasQuestions terms graph log_text text

-- The terms are in their ranges, and the log is short enough to be read.
pub record CanReadLog (terms : Terms) (log_text : List ℕ) : Type 0 where
  pub within : AreReportTerms terms
  pub short : length log_text ≤ LONGEST_FILE

-- Why there are no questions, the first of these that holds: a number of the terms is out of its range; or the log has more than 2^24 bytes;
-- or this is the first fault of the graph's text; or the graph has too many hypotheses. Or memory ran out.
abbrev pub IsAskTextsFault : List ℕ → Terms → List ℕ → AskTextsFault → Type 0
IsAskTextsFault graph_text terms log_text OutOfRange = AreReportTerms terms → ⊥
IsAskTextsFault graph_text terms log_text TooMuchInput = AreReportTerms terms × (LONGEST_FILE < length log_text)
IsAskTextsFault graph_text terms log_text (Graph fault) = CanReadLog terms log_text × IsFirstFault graph_text fault
IsAskTextsFault graph_text terms log_text (TooManyHypotheses count) = CanReadLog terms log_text × GivesTooMany graph_text terms count
IsAskTextsFault graph_text terms log_text NoMemory = Unit {0}

-- Nothing but memory stands in the way of the questions.
pub record CanAskTexts (graph_text : List ℕ) (terms : Terms) (log_text : List ℕ) : Type 0 where
  pub opens : CanOpen graph_text terms
  pub short : length log_text ≤ LONGEST_FILE
