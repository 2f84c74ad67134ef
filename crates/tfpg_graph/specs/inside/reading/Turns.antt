-- How a reader goes from line to line, by what is declared so far. What a line means for a text is said in Causes.
use Rattle.std.specs.Prelude.{◌≡◌, ℕ, ◌<◌, List, [], ◌∷◌, length, All, Bool, ◌||◌, nat_lt, ◌==◌, if◌then◌else◌, Option, Some, None, option_map, Result, Ok, Err, IsTrue, is_some}
use Rattle.std.specs.List.{list_any}
use Rattle.tfpg_graph.specs.declared.cause.GraphCause.{GraphCause}
use Rattle.tfpg_graph.specs.declared.cause.GraphCause.TheVariants.{BadHeader, BadLine, AfterEnd}
use Rattle.tfpg_graph.specs.declared.reading.reader.ReadingStage.{ReadingStage}
use Rattle.tfpg_graph.specs.declared.reading.reader.ReadingStage.TheVariants.{Header, Declarations, Ended}
use Rattle.tfpg_graph.specs.Graph.{Tfpg}
use Rattle.tfpg_graph.specs.declared.version.Version.{Version}
use Rattle.tfpg_graph.specs.declared.version.Version.TheVariants.{One}
use Rattle.tfpg_graph.specs.Text.{version_said, version_of}
use Rattle.tfpg_graph.specs.inside.declaring.Indexes.{nothing_declared, with_node, with_edge, with_mode}
use Rattle.tfpg_graph.specs.Statements.{Statement, DeclaresMode, DeclaresNode, DeclaresEdge, Ends, statement_of, is_skipped, ends_text}
use Rattle.tfpg_graph.specs.Declares.{kind_of_words, edge_declared, said_by, declared_by}
use Rattle.tfpg_base.specs.Choice.{first_of}
use Rattle.tfpg_graph.specs.declared.reading.reader.Reader.{Reader}
use Rattle.tfpg_graph.specs.Causes.{causes, cause_at}

-- before the first line
abbrev pub nothing_read : Reader
nothing_read = record { part = Header; version = One; declared = nothing_declared }

-- A statement is out of its order, as what is declared shows.
abbrev pub is_misplaced : Tfpg → Statement → Bool
is_misplaced graph (DeclaresMode name) = nat_lt 0 (length graph.nodes) || nat_lt 0 (length graph.edges)
is_misplaced graph (DeclaresNode name words) = (length graph.modes == 0) || nat_lt 0 (length graph.edges)
is_misplaced graph (DeclaresEdge source target tmin tmax modes) = length graph.modes == 0
is_misplaced graph Ends = length graph.modes == 0

-- the reader of a text of this version, with what a statement declares
abbrev pub reader_with : Version → Tfpg → Statement → Option Reader
reader_with version graph (DeclaresMode name) = Some (record { part = Declarations; version = version; declared = with_mode graph name })
reader_with version graph (DeclaresNode name words) =
    option_map (λ kind. record { part = Declarations; version = version; declared = with_node graph name kind }) (kind_of_words words)
reader_with version graph (DeclaresEdge source target tmin tmax modes) =
    option_map (λ edge. record { part = Declarations; version = version; declared = with_edge graph edge })
    (edge_declared graph (DeclaresEdge source target tmin tmax modes))
reader_with version graph Ends = Some (record { part = Ended; version = version; declared = graph })

-- The cause, or else the value. What has no cause has a value.
abbrev pub cause_or_value : {X : Type 0} → Option GraphCause → Option X → Result X GraphCause
cause_or_value (Some cause) value = Err cause
cause_or_value None (Some value) = Ok value
cause_or_value None None = Err BadLine

-- What is read has its first cause, or else has none and is this value.
abbrev pub ReadAs : {X : Type 0} → Option GraphCause → Option X → Result X GraphCause → Type 0
ReadAs first value (Ok x) = (first ≡ None) × (value ≡ Some x)
ReadAs first value (Err cause) = first ≡ Some cause

-- a statement is taken where it has no cause
abbrev pub turn_said : Version → Tfpg → Option Statement → Result Reader GraphCause
turn_said version graph None = Err BadLine
turn_said version graph (Some said) = cause_or_value (first_of (causes (is_misplaced graph said) graph said)) (reader_with version graph said)

-- the first line is taken where it is a header
abbrev pub turn_header : Tfpg → Option Version → Result Reader GraphCause
turn_header graph None = Err BadHeader
turn_header graph (Some version) = Ok (record { part = Declarations; version = version; declared = graph })

-- a line of each part
abbrev pub turn_of : ReadingStage → Version → Tfpg → List ℕ → Result Reader GraphCause
turn_of Header version graph line = turn_header graph (version_said line)
turn_of Declarations version graph line =
    if is_skipped line then Ok (record { part = Declarations; version = version; declared = graph })
    else turn_said version graph (statement_of version line)
turn_of Ended version graph line = if is_skipped line then Ok (record { part = Ended; version = version; declared = graph }) else Err AfterEnd

-- One line.
abbrev pub turn : Reader → List ℕ → Result Reader GraphCause
turn progress line = turn_of progress.part progress.version progress.declared line

-- which lines may come after these
abbrev pub part_after : List (List ℕ) → ReadingStage
part_after [] = Header
part_after (first ∷ others) = if list_any ends_text (said_by (first ∷ others)) then Ended else Declarations

-- what a statement declares has a value
abbrev pub HasValue : Tfpg → Statement → Type 0
HasValue graph (DeclaresMode name) = Unit {0}
HasValue graph (DeclaresNode name words) = IsTrue (is_some (kind_of_words words))
HasValue graph (DeclaresEdge source target tmin tmax modes) = IsTrue (is_some (edge_declared graph (DeclaresEdge source target tmin tmax modes)))
HasValue graph Ends = Unit {0}

-- The lines were read, none of them has a cause, and they declare what is declared.
pub record ReaderRepresents (progress : Reader) (lines : List (List ℕ)) : Type 0 where
  pub clean : (index : ℕ) → index < length lines → cause_at lines index ≡ None
  pub version : progress.version ≡ version_of lines
  pub graph : progress.declared ≡ declared_by lines
  pub part : progress.part ≡ part_after lines
  pub values : All (HasValue (declared_by lines)) (said_by lines)
