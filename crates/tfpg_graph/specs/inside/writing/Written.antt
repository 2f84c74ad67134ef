-- Pieces of the canonical text, as the calls that append them name them.
use Rattle.std.specs.Prelude.{ℕ, List, filter, filter_map, slice_get, Option, option_map}
use Rattle.std.specs.List.{range_with_len}
use Rattle.tfpg_base.specs.Lines.{with_line_end}
use Rattle.tfpg_graph.specs.declared.kind.Kind.{Kind}
use Rattle.tfpg_graph.specs.declared.kind.Lag.{Lag}
use Rattle.tfpg_graph.specs.declared.edge.Edge.{Edge}
use Rattle.tfpg_graph.specs.declared.version.Version.{Version}
use Rattle.tfpg_graph.specs.Graph.{Tfpg, has_mode_bit}
use Rattle.tfpg_graph.specs.Statements.{words_of_watch, words_of_node}
use Rattle.tfpg_graph.specs.Text.{lag_words, words_of_kind, mode_line, edge_line, modes_word}

-- the line of a mode, with its line end
abbrev pub mode_text : List ℕ → List ℕ
mode_text name = with_line_end (mode_line name)

-- the words of a node's line
abbrev pub node_words : Version → List ℕ → Kind → List (List ℕ)
node_words version name kind = words_of_node version name (words_of_kind kind)

-- a discrepancy's last words, by its lag
abbrev pub watch_words : Version → Option Lag → List (List ℕ)
watch_words version lag = words_of_watch version (option_map lag_words lag)

-- the line of an edge, with its line end
abbrev pub edge_text : Tfpg → Edge → List ℕ
edge_text graph edge = with_line_end (edge_line graph edge (modes_word graph edge.modes))

-- the modes before this number whose bits are set, rising
abbrev pub modes_before : ℕ → ℕ → List ℕ
modes_before bits end = filter (has_mode_bit bits) (range_with_len 0 end)

-- the names of the modes before this number whose bits are set
abbrev pub mode_names_before : Tfpg → ℕ → ℕ → List (List ℕ)
mode_names_before graph bits end = filter_map (slice_get graph.modes) (modes_before bits end)
