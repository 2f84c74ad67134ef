-- The first fault of a text.
use Rattle.std.specs.Prelude.{◌≡◌, ◌⊎◌, ℕ, ◌+◌, ◌<◌, List, [], length, take, Bool, false, Some, None, Result, Ok, Err, IsTrue, count_by, slice_index_or}
use Rattle.std.specs.Option.{option_map_or}
use Rattle.std.specs.List.{list_any}
use Rattle.tfpg_base.specs.Lines.{lines_of}
use Rattle.tfpg_graph.specs.declared.cause.GraphCause.TheVariants.{NoIncoming, ZeroCycle, MissingEnd}
use Rattle.tfpg_graph.specs.declared.cause.GraphFault.{GraphFault}
use Rattle.tfpg_graph.specs.declared.cause.GraphRefusal.{GraphRefusal}
use Rattle.tfpg_graph.specs.declared.cause.GraphRefusal.TheVariants.{Fault, NoMemory}
use Rattle.tfpg_graph.specs.declared.version.Version.{Version}
use Rattle.tfpg_graph.specs.Graph.{Tfpg, is_discrepancy, incoming}
use Rattle.tfpg_graph.specs.Text.{version_of}
use Rattle.tfpg_graph.specs.Valid.{HasIncomingBefore, HasNoZeroCycle}
use Rattle.tfpg_graph.specs.ZeroCycle.{LiesOnZeroCycle}
use Rattle.tfpg_graph.specs.Statements.{Statement, statement_of, declares_node, declares_edge, ends_text}
use Rattle.tfpg_graph.specs.Declares.{said_by, declared_by}
use Rattle.tfpg_graph.specs.Causes.{cause_at}

-- The indexes of the lines that are tested, from 0. The first is tested also where the text has no line.
abbrev pub IsTested : List (List ℕ) → ℕ → Type 0
IsTested lines index = (index ≡ 0) ⊎ (index < length lines)

-- no line that is tested has a cause
abbrev pub IsClean : List (List ℕ) → Type 0
IsClean lines = (index : ℕ) → IsTested lines index → cause_at lines index ≡ None

-- The fault's line is the first that has a cause, and the fault's cause is the first of that line.
pub record IsLineFault (lines : List (List ℕ)) (fault : GraphFault) : Type 0 where
  pub index : ℕ
  pub number : fault.line ≡ index + 1
  pub tested : IsTested lines index
  pub cause : cause_at lines index ≡ Some fault.cause
  pub first : (earlier : ℕ) → earlier < index → cause_at lines earlier ≡ None

-- whether a line of a text of this version says such a thing
abbrev pub says : Version → (Statement → Bool) → List ℕ → Bool
says version test line = option_map_or test (statement_of version line) false

-- The line of this number, counted from 1, says such a thing, and so many lines before it do.
pub record IsLineSaying (test : Statement → Bool) (lines : List (List ℕ)) (count line : ℕ) : Type 0 where
  pub index : ℕ
  pub number : line ≡ index + 1
  pub within : index < length lines
  pub here : IsTrue (says (version_of lines) test (slice_index_or lines index []))
  pub before : count_by (says (version_of lines) test) (take index lines) ≡ count

-- the node of this number is a discrepancy with no edge into it
abbrev pub LacksIncoming : Tfpg → ℕ → Type 0
LacksIncoming graph node = (node < length graph.nodes) × IsTrue (is_discrepancy graph node) × (incoming graph node ≡ [])

-- the line of the first discrepancy with no edge into it
pub record IsIncomingFault (lines : List (List ℕ)) (fault : GraphFault) : Type 0 where
  pub cause : fault.cause ≡ NoIncoming
  pub node : ℕ
  pub lacks : LacksIncoming (declared_by lines) node
  pub first : HasIncomingBefore (declared_by lines) node
  pub line : IsLineSaying declares_node lines node fault.line

-- the line of the first edge on a cycle of edges that may take no time, where no discrepancy lacks an edge into it
pub record IsCycleFault (lines : List (List ℕ)) (fault : GraphFault) : Type 0 where
  pub cause : fault.cause ≡ ZeroCycle
  pub incoming : HasIncomingBefore (declared_by lines) (length (declared_by lines).nodes)
  pub edge : ℕ
  pub lies : LiesOnZeroCycle (declared_by lines) edge
  pub first : (earlier : ℕ) → earlier < edge → LiesOnZeroCycle (declared_by lines) earlier → ⊥
  pub line : IsLineSaying declares_edge lines edge fault.line

-- the line after the last, where nothing else is wrong and no line ends the text
pub record IsEndFault (lines : List (List ℕ)) (fault : GraphFault) : Type 0 where
  pub cause : fault.cause ≡ MissingEnd
  pub incoming : HasIncomingBefore (declared_by lines) (length (declared_by lines).nodes)
  pub no_cycle : HasNoZeroCycle (declared_by lines)
  pub no_end : list_any ends_text (said_by lines) ≡ false
  pub line : fault.line ≡ length lines + 1

-- what is wrong with a text none of whose lines has a cause
abbrev pub IsWholeFault : List (List ℕ) → GraphFault → Type 0
IsWholeFault lines fault = IsIncomingFault lines fault ⊎ (IsCycleFault lines fault ⊎ IsEndFault lines fault)

-- The first fault of a text: that of its first line that has a cause, or else of the whole text.
abbrev pub IsFirstFault : List ℕ → GraphFault → Type 0
IsFirstFault text fault = IsLineFault (lines_of text) fault ⊎ (IsClean (lines_of text) × IsWholeFault (lines_of text) fault)

-- Why a text may be refused: memory ran out, or this is its first fault.
abbrev pub IsRefusalOf : List ℕ → GraphRefusal → Type 0
IsRefusalOf text (Fault fault) = IsFirstFault text fault
IsRefusalOf text NoMemory = Unit {0}

-- The result for a text that has this first fault: the fault, unless memory ran out.
abbrev pub IsFaultResult : GraphFault → Result Tfpg GraphRefusal → Type 0
IsFaultResult fault result = (result ≡ Err (Fault fault)) ⊎ (result ≡ Err NoMemory)

-- The result for a text that spells this graph: the graph, unless memory ran out.
abbrev pub IsGraphResult : Tfpg → Result Tfpg GraphRefusal → Type 0
IsGraphResult graph result = (result ≡ Ok graph) ⊎ (result ≡ Err NoMemory)
