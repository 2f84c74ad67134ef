-- The forecasts of a node after a log, where graph and log are texts.
use Rattle.std.specs.Prelude.{◌≡◌, ◌<◌, ◌≤◌, ℕ, List, length, Ok, Err}
use Rattle.tfpg_base.specs.declared.terms.Terms.{Terms}
use Rattle.tfpg_base.specs.declared.limits.TheConstants.{LONGEST_FILE, MAX_TIME}
use Rattle.tfpg_base.specs.Lines.{lines_of}
use Rattle.tfpg_base.specs.Terms.{AreReportTerms}
use Rattle.tfpg_graph.specs.Graph.{Tfpg}
use Rattle.tfpg_graph.specs.Faults.{IsFirstFault}
use Rattle.tfpg_diagnose.specs.texts.Opening.{CanOpen, GivesGraphOf, GivesTooMany}
use Rattle.tfpg_answers.specs.Forecasts.{HasForecasts, Prediction}
use Rattle.tfpg_answers.specs.Probing.{probed_node}
use Rattle.tfpg_answers.specs.declared.predict.probing.ProbeFault.{ProbeFault}
use Rattle.tfpg_answers.specs.declared.texts.fault.PredictTextsFault.{PredictTextsFault}
use Rattle.tfpg_answers.specs.declared.texts.fault.PredictTextsFault.TheVariants.{OutOfRange, TooMuchInput, Graph, Probe, TooManyHypotheses, NoMemory}

-- what is predicted: the texts of a graph and a log, and what is asked of them
pub record PredictedTexts : Type 0 where
  pub graph : List ℕ
  pub log : List ℕ
  pub asked : Prediction

-- these
abbrev pub predicted_texts : List ℕ → List ℕ → Prediction → PredictedTexts
predicted_texts graph log asked = record { graph = graph; log = log; asked = asked }

-- The text spells a graph in which the node of this name takes a probe.
pub record GivesProbe (graph_text name : List ℕ) : Type 0 where
  pub graph : Tfpg
  pub gives : GivesGraphOf graph_text graph
  pub node : ℕ
  pub is_node : probed_node graph name ≡ Ok node

-- The text spells a graph in which the node of this name takes no probe, for this cause.
pub record GivesNoProbe (graph_text name : List ℕ) (fault : ProbeFault) : Type 0 where
  pub graph : Tfpg
  pub gives : GivesGraphOf graph_text graph
  pub is_fault : probed_node graph name ≡ Err fault

-- The text has the forecasts of the node after the lines of the log, for the graph that the one text spells.
pub record HasForecastsOfTexts (texts : PredictedTexts) (text : List ℕ) : Type 0 where
  pub probe : GivesProbe texts.graph texts.asked.node
  pub forecasts : HasForecasts probe.graph texts.asked probe.node (lines_of texts.log) text

-- The terms are in their ranges, and it is not looked ahead more than the greatest time.
pub record IsInRange (terms : Terms) (ahead : ℕ) : Type 0 where
  pub within : AreReportTerms terms
  pub not_far : ahead ≤ MAX_TIME

-- So are those of what is asked, and the log is short enough to be read.
pub record CanReadTexts (texts : PredictedTexts) : Type 0 where
  pub in_range : IsInRange texts.asked.terms texts.asked.ahead
  pub short : length texts.log ≤ LONGEST_FILE

-- Why there are no forecasts, the first of these that holds: a number is out of its range; or the log has more than 2^24 bytes; or this is
-- the first fault of the graph's text; or the node takes no probe, for this cause; or the graph has too many hypotheses. Or memory ran out.
abbrev pub IsPredictTextsFault : PredictedTexts → PredictTextsFault → Type 0
IsPredictTextsFault texts OutOfRange = IsInRange texts.asked.terms texts.asked.ahead → ⊥
IsPredictTextsFault texts TooMuchInput = IsInRange texts.asked.terms texts.asked.ahead × (LONGEST_FILE < length texts.log)
IsPredictTextsFault texts (Graph fault) = CanReadTexts texts × IsFirstFault texts.graph fault
IsPredictTextsFault texts (Probe fault) = CanReadTexts texts × GivesNoProbe texts.graph texts.asked.node fault
IsPredictTextsFault texts (TooManyHypotheses count) =
    CanReadTexts texts × GivesProbe texts.graph texts.asked.node × GivesTooMany texts.graph texts.asked.terms count
IsPredictTextsFault texts NoMemory = Unit {0}

-- Nothing but memory stands in the way of the forecasts.
pub record CanPredictTexts (texts : PredictedTexts) : Type 0 where
  pub can_read : CanReadTexts texts
  pub opens : CanOpen texts.graph texts.asked.terms
  pub probe : GivesProbe texts.graph texts.asked.node
