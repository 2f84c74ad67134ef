-- Why the lines of a text spell no map.
use Rattle.std.specs.Prelude.{ℕ, List}
use Rattle.tfpg_base.specs.Lines.{lines_of}
use Rattle.tfpg_graph.specs.Graph.{Tfpg}
use Rattle.tfpg_map.specs.Spelling.{IsMapFault}
use Rattle.tfpg_answers.specs.declared.texts.fault.ExplainTextsFault.{ExplainTextsFault}
use Rattle.tfpg_answers.specs.declared.texts.fault.ExplainTextsFault.TheVariants.{TooMuchInput, Graph, BadMap, NoMemory}

-- The lines of the text spell no map, with this cause. There is a graph, and the text is short enough.
abbrev pub LacksMapIn : Tfpg → List ℕ → ExplainTextsFault → Type 0
LacksMapIn graph text TooMuchInput = ⊥
LacksMapIn graph text (Graph fault) = ⊥
LacksMapIn graph text (BadMap line) = IsMapFault graph (lines_of text) line
LacksMapIn graph text NoMemory = Unit {0}
