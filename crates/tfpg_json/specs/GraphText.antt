-- The graph text that JSON stands for.
use Rattle.std.specs.Prelude.{◌≡◌, ◌⊎◌, ℕ, List, [], ◌∷◌, ◌++◌, map, flat_map, if◌then◌else◌, Option, Some, None, option_and_then, Result, Ok, Err, codes}
use Rattle.std.specs.Str.{is_utf8}
use Rattle.serde_json.specs.Data.{Data}
use Rattle.serde_json.specs.Read.{read}
use Rattle.tfpg_base.specs.Lines.{with_line_end}
use Rattle.tfpg_base.specs.Words.{line_of, joined_by_commas}
use Rattle.tfpg_graph.specs.declared.cause.GraphCause.{GraphCause}
use Rattle.tfpg_graph.specs.declared.cause.GraphCause.TheVariants.{BadLine, BadName}
use Rattle.tfpg_graph.specs.declared.cause.GraphFault.{GraphFault}
use Rattle.tfpg_graph.specs.declared.cause.GraphRefusal.{GraphRefusal}
use Rattle.tfpg_graph.specs.declared.cause.GraphRefusal.TheVariants.{Fault, NoMemory}
use Rattle.tfpg_graph.specs.declared.version.Version.TheVariants.{Two}
use Rattle.tfpg_graph.specs.Graph.{Tfpg}
use Rattle.tfpg_graph.specs.Text.{header, mode_line, node_line, edge_start_words, Spells}
use Rattle.tfpg_graph.specs.Faults.{IsFirstFault}
use Rattle.tfpg_json.specs.GraphSaid.{EdgeSaid, GraphSaid, graph_in, has_names}

-- the word for the modes of an edge: a star for all, a hyphen for an empty list, else the names with commas between
abbrev pub modes_said_word : Option (List (List ℕ)) → List ℕ
modes_said_word None = codes "*"
modes_said_word (Some []) = codes "-"
modes_said_word (Some (name ∷ names)) = joined_by_commas (name ∷ names)

-- the line of an edge
abbrev pub edge_said_line : EdgeSaid → List ℕ
edge_said_line edge = line_of (edge_start_words edge.source edge.target edge.tmin edge.tmax ++ modes_said_word edge.modes ∷ [])

-- The text that JSON stands for: the header of version 2, the modes, the nodes, the edges and the end, a line each.
abbrev pub text_said : GraphSaid → List ℕ
text_said said = flat_map with_line_end
    (header Two ∷ (map mode_line said.modes ++ map (node_line Two) said.nodes ++ map edge_said_line said.edges ++ codes "end" ∷ []))

-- the data that a text is, where it is JSON as `serde_json` reads it
abbrev pub data_in : List ℕ → Option Data
data_in text = if is_utf8 text then read text else None

-- a fault of the whole text, which is in no line
abbrev pub whole_fault : GraphCause → GraphFault
whole_fault cause = record { line = 0; cause = cause }

-- the graph text that is said, or what is wrong before any line of it is read: there is none, or a name has not the form of one
abbrev pub text_or_fault : Option GraphSaid → Result (List ℕ) GraphFault
text_or_fault None = Err (whole_fault BadLine)
text_or_fault (Some said) = if has_names said then Ok (text_said said) else Err (whole_fault BadName)

-- The graph text that a text stands for, or what is wrong with it as a whole.
abbrev pub stands_for : List ℕ → Result (List ℕ) GraphFault
stands_for text = text_or_fault (option_and_then graph_in (data_in text))

-- The text spells the graph as JSON: it stands for a graph text that spells the graph.
abbrev pub SpellsAsJson : List ℕ → Tfpg → Type 0
SpellsAsJson text graph = (lines : List ℕ) × (stands_for text ≡ Ok lines) × Spells lines graph

-- The first fault of a text as JSON: of the whole text, or of the graph text that it stands for.
abbrev pub IsJsonFault : List ℕ → GraphFault → Type 0
IsJsonFault text fault = (stands_for text ≡ Err fault) ⊎ ((lines : List ℕ) × (stands_for text ≡ Ok lines) × IsFirstFault lines fault)

-- Why a text may be refused as JSON: memory ran out, or this is its first fault.
abbrev pub IsJsonRefusalOf : List ℕ → GraphRefusal → Type 0
IsJsonRefusalOf text (Fault fault) = IsJsonFault text fault
IsJsonRefusalOf text NoMemory = Unit {0}
