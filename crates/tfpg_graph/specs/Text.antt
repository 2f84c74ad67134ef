-- The text of a graph: what each line spells.
use Rattle.std.specs.Prelude.{◌≡◌, ℕ, ◌-◌, ◌≤◌, ◌^◌, List, [], ◌∷◌, ◌++◌, length, map, filter, All, not, ◌==◌, if◌then◌else◌, Option, Some, None, slice_get, codes, decimal, option_map, filter_map, flat_map, unwrap_or, slice_index_or, bytes_eq, IsTrue, ◌⊎◌, ◌≢◌, ◌<◌, AllPairs}
use Rattle.std.specs.List.{range_with_len, AllZip, list_all}
use Rattle.tfpg_base.specs.SetBits.{bits_of}
use Rattle.tfpg_base.specs.Words.{joined_by_commas, line_of}
use Rattle.tfpg_base.specs.Lines.{lines_of, with_line_end}
use Rattle.tfpg_base.specs.declared.limits.TheConstants.{LONGEST_LINE}
use Rattle.tfpg_graph.specs.declared.kind.Kind.{Kind}
use Rattle.tfpg_graph.specs.declared.kind.Lag.{Lag}
use Rattle.tfpg_graph.specs.declared.kind.Kind.TheVariants.{Failure, Or, And}
use Rattle.tfpg_graph.specs.declared.edge.Edge.{Edge}
use Rattle.tfpg_graph.specs.declared.version.Version.{Version}
use Rattle.tfpg_graph.specs.declared.version.Version.TheVariants.{One, Two}
use Rattle.tfpg_graph.specs.Graph.{Tfpg, Node, name_word, has_mode_bit, has_zero_least}
use Rattle.tfpg_graph.specs.Statements.{LagWords, NodeWords, FailureWords, OrWords, AndWords, words_of_node, is_empty_or_comment}

-- the first line of a text of this version
abbrev pub header : Version → List ℕ
header One = codes "tfpg 1"
header Two = codes "tfpg 2"

-- the version that a first line says, where it is a header
abbrev pub version_said : List ℕ → Option Version
version_said line = if bytes_eq line (header One) then Some One else (if bytes_eq line (header Two) then Some Two else None)

-- The version of a text, by its first line. It does not matter where that is no header, since the text then has a fault.
abbrev pub version_of : List (List ℕ) → Version
version_of lines = unwrap_or (version_said (slice_index_or lines 0 [])) One

-- the line of a mode
abbrev pub mode_line : List ℕ → List ℕ
mode_line name = line_of (codes "mode" ∷ name ∷ [])

-- the words for a lag
abbrev pub lag_words : Lag → LagWords
lag_words lag = record { least = decimal lag.least; most = decimal lag.most }

-- the words that say what a node is
abbrev pub words_of_kind : Kind → NodeWords
words_of_kind (Failure rarity) = FailureWords (decimal rarity)
words_of_kind (Or lag) = OrWords (option_map lag_words lag)
words_of_kind (And lag) = AndWords (option_map lag_words lag)

-- the line of a node
abbrev pub node_line : Version → Node → List ℕ
node_line version node = line_of (words_of_node version node.name (words_of_kind node.kind))

-- the line of a node, with its line end
abbrev pub node_text : Version → Node → List ℕ
node_text version node = with_line_end (node_line version node)

-- the word for a greatest delay
abbrev pub tmax_word : Option ℕ → List ℕ
tmax_word None = codes "inf"
tmax_word (Some tmax) = decimal tmax

-- The words of an edge's line before the word for its modes: the names of source and target, and the delays.
abbrev pub edge_start_words : List ℕ → List ℕ → ℕ → Option ℕ → List (List ℕ)
edge_start_words source target tmin tmax = codes "edge" ∷ source ∷ target ∷ decimal tmin ∷ tmax_word tmax ∷ []

-- the line of an edge whose modes this word spells
abbrev pub edge_line : Tfpg → Edge → List ℕ → List ℕ
edge_line graph edge modes_word =
    line_of (edge_start_words (name_word graph edge.source) (name_word graph edge.target) edge.tmin edge.tmax ++ modes_word ∷ [])

-- the bits of all the graph's modes
abbrev pub all_modes : Tfpg → ℕ
all_modes graph = 2 ^ length graph.modes - 1

-- The word spells these modes: a star for all, or the names of some, in any order, each once, with commas between.
-- There is no word for no mode, since a valid edge is active in some mode.
abbrev pub SpellsModes : Tfpg → ℕ → List ℕ → Type 0
SpellsModes graph bits word =
    ((word ≡ codes "*") × (bits ≡ all_modes graph))
    ⊎ ((modes : List ℕ) × (modes ≢ []) × AllPairs (λ a b. a ≢ b) modes × All (λ mode. mode < length graph.modes) modes
    × (word ≡ joined_by_commas (filter_map (slice_get graph.modes) modes)) × (bits ≡ bits_of modes))

-- The line spells this edge.
abbrev pub SpellsEdge : Tfpg → Edge → List ℕ → Type 0
SpellsEdge graph edge line = (word : List ℕ) × SpellsModes graph edge.modes word × (line ≡ edge_line graph edge word)

-- the lines that are neither empty nor begin with `#`
abbrev pub content_lines : List (List ℕ) → List (List ℕ)
content_lines lines = filter (λ line. not (is_empty_or_comment line)) lines

-- The lines after the header that are not skipped: the modes, the nodes, the edges and the end. Version 1 has no word for a
-- least lag, which is 0 there.
pub record SpellsLines (version : Version) (graph : Tfpg) (lines : List (List ℕ)) : Type 0 where
  pub edge_lines : List (List ℕ)
  pub edges : AllZip (SpellsEdge graph) graph.edges edge_lines
  pub all : lines ≡ map mode_line graph.modes ++ map (node_line version) graph.nodes ++ edge_lines ++ codes "end" ∷ []
  pub zero_least : version ≡ One → All (λ node. IsTrue (has_zero_least node.kind)) graph.nodes

-- The text spells the graph, in one of the versions. After the header, empty lines and lines that begin with `#` are skipped;
-- no line is too long.
pub record Spells (text : List ℕ) (graph : Tfpg) : Type 0 where
  pub version : Version
  pub after : List (List ℕ)
  pub lines : lines_of text ≡ header version ∷ after
  pub said : SpellsLines version graph (content_lines after)
  pub short : All (λ line. length line ≤ LONGEST_LINE) (lines_of text)

-- the word for an edge's modes in the canonical text: a star for all, else the names in the order of the modes
abbrev pub modes_word : Tfpg → ℕ → List ℕ
modes_word graph bits =
    if bits == all_modes graph then codes "*"
    else joined_by_commas (filter_map (slice_get graph.modes) (filter (has_mode_bit bits) (range_with_len 0 (length graph.modes))))

-- the version of the canonical text: 1 where each least lag is 0, and else 2
abbrev pub version_for : Tfpg → Version
version_for graph = if list_all (λ node. has_zero_least node.kind) graph.nodes then One else Two

-- the lines of the canonical text
abbrev pub canonical_lines : Tfpg → List (List ℕ)
canonical_lines graph =
    header (version_for graph) ∷ (map mode_line graph.modes ++ map (node_line (version_for graph)) graph.nodes
    ++ map (λ edge. edge_line graph edge (modes_word graph edge.modes)) graph.edges ++ codes "end" ∷ [])

-- the canonical text
abbrev pub canonical_text : Tfpg → List ℕ
canonical_text graph = flat_map with_line_end (canonical_lines graph)
