-- The verdict on a map, where graph, log and map are texts.
use Rattle.std.specs.Prelude.{◌⊎◌, ◌<◌, ◌≤◌, ℕ, List, length}
use Rattle.tfpg_base.specs.declared.limits.TheConstants.{LONGEST_FILE, MAX_BYTES}
use Rattle.tfpg_base.specs.Lines.{lines_of}
use Rattle.tfpg_graph.specs.Graph.{Tfpg}
use Rattle.tfpg_graph.specs.Faults.{IsFirstFault}
use Rattle.tfpg_log.specs.LogOfLines.{log_of_lines}
use Rattle.tfpg_map.specs.Spelling.{HasMap, IsMapFault, SpellsMap}
use Rattle.tfpg_map.specs.declared.map.Map.{Map}
use Rattle.tfpg_diagnose.specs.texts.Opening.{GivesGraphOf}
use Rattle.tfpg_answers.specs.Verdicts.{HasVerdict}
use Rattle.tfpg_answers.specs.declared.texts.fault.ExplainTextsFault.{ExplainTextsFault}
use Rattle.tfpg_answers.specs.declared.texts.fault.ExplainTextsFault.TheVariants.{TooMuchInput, Graph, BadMap, NoMemory}

-- what is judged: the text of a map, by those of a graph and a log
pub record ExplainedTexts : Type 0 where
  pub graph : List ℕ
  pub log : List ℕ
  pub map : List ℕ

-- these three
abbrev pub explained_texts : List ℕ → List ℕ → List ℕ → ExplainedTexts
explained_texts graph log map = record { graph = graph; log = log; map = map }

-- The text is the verdict on the map that the one text spells, by the graph that the other spells and the lines of the log.
pub record HasVerdictOfTexts (texts : ExplainedTexts) (text : List ℕ) : Type 0 where
  pub graph : Tfpg
  pub gives : GivesGraphOf texts.graph graph
  pub map : Map
  pub spells : SpellsMap graph (lines_of texts.map) map.hypothesis map.trace
  pub verdict : HasVerdict graph (log_of_lines graph (lines_of texts.log)) map text

-- The texts are short enough to be read.
pub record CanBeRead (texts : ExplainedTexts) : Type 0 where
  pub log : length texts.log ≤ LONGEST_FILE
  pub map : length texts.map ≤ MAX_BYTES

-- The text spells a graph, for which this line is the first faulty one of the map.
pub record GivesBadMap (texts : ExplainedTexts) (line : ℕ) : Type 0 where
  pub graph : Tfpg
  pub gives : GivesGraphOf texts.graph graph
  pub fault : IsMapFault graph (lines_of texts.map) line

-- Why there is no verdict, the first of these that holds: the log has more than 2^24 bytes, or the map more than 2^32; or this is the first
-- fault of the graph's text; or this line is the first faulty one of the map. Or memory ran out.
abbrev pub IsExplainTextsFault : ExplainedTexts → ExplainTextsFault → Type 0
IsExplainTextsFault texts TooMuchInput = (LONGEST_FILE < length texts.log) ⊎ (MAX_BYTES < length texts.map)
IsExplainTextsFault texts (Graph fault) = CanBeRead texts × IsFirstFault texts.graph fault
IsExplainTextsFault texts (BadMap line) = CanBeRead texts × GivesBadMap texts line
IsExplainTextsFault texts NoMemory = Unit {0}

-- Nothing but memory stands in the way of a verdict.
pub record CanExplainTexts (texts : ExplainedTexts) : Type 0 where
  pub can_read : CanBeRead texts
  pub graph : Tfpg
  pub gives : GivesGraphOf texts.graph graph
  pub has_map : HasMap graph (lines_of texts.map)
