-- How long an edge has been active when a span begins: by its gap, the last instant before the span at which it was not.
use Rattle.std.specs.Prelude.{◌≡◌, ℕ, ◌+◌, ◌<◌, ◌≤◌, List, length, IsTrue, if◌then◌else◌, Option, Some, None, slice_get, slice_index_or, max}
use Rattle.std.specs.Option.{option_map_or}
use Rattle.tfpg_graph.specs.declared.edge.Edge.{Edge}
use Rattle.tfpg_graph.specs.Graph.{Tfpg, is_active_in, incoming}
use Rattle.tfpg_log.specs.declared.span.Span.{Span}
use Rattle.tfpg_log.specs.Log.{Logbook, now_of, is_active_at}
use Rattle.tfpg_log.specs.Spans.{span_number, span_at}

-- In the spans before that of a number the edge is last not active at this instant.
pub record IsLastGap (log : Logbook) (edge : Edge) (number gap : ℕ) : Type 0 where
  pub before : span_number log gap < number
  pub shut : IsTrue (is_active_at log edge gap) → ⊥
  pub active_since : (instant : ℕ) → gap < instant → instant ≤ now_of log → span_number log instant < number
      → IsTrue (is_active_at log edge instant)

-- where it is last not active in them; with none it is active at all of their instants
abbrev pub IsGap : Logbook → Edge → ℕ → Option ℕ → Type 0
IsGap log edge number None =
    (instant : ℕ) → instant ≤ now_of log → span_number log instant < number → IsTrue (is_active_at log edge instant)
IsGap log edge number (Some gap) = IsLastGap log edge number gap

-- the same of the edge of this number in the graph
abbrev pub IsGapOf : Tfpg → Logbook → ℕ → ℕ → Option ℕ → Type 0
IsGapOf graph log edge number gap = (e : Edge) → slice_get graph.edges edge ≡ Some e → IsGap log e number gap

-- These are the gaps of the edges into the node, by their indexes among them.
abbrev pub AreGaps : Tfpg → Logbook → ℕ → ℕ → List (Option ℕ) → Type 0
AreGaps graph log node number gaps =
    (index : ℕ) → index < length (incoming graph node)
    → IsGapOf graph log (slice_index_or (incoming graph node) index 0) number (slice_index_or gaps index None)

-- The node is one of the graph, and there are gaps enough for the edges into it.
pub record HasGaps (graph : Tfpg) (node : ℕ) (gaps : List (Option ℕ)) : Type 0 where
  pub in_graph : node < length graph.nodes
  pub room : length (incoming graph node) ≤ length gaps

-- The span is the one of a number, and these are the gaps of the edges into the node when it begins.
pub record StartsSpan (graph : Tfpg) (log : Logbook) (node number : ℕ) (span : Span)
    (gaps : List (Option ℕ)) : Type 0 where
  pub here : span_at log number (now_of log) ≡ Some span
  pub are : AreGaps graph log node number gaps

-- the later of an instant and the one after a gap
abbrev pub after_gap : Option ℕ → ℕ → ℕ
after_gap None instant = instant
after_gap (Some gap) instant = max instant (gap + 1)

-- the gap of the edge of this number in the graph, once the span is over
abbrev pub gap_after : Tfpg → Span → ℕ → Option ℕ → Option ℕ
gap_after graph span edge gap =
    option_map_or (λ e. if is_active_in e span.mode then gap else Some span.hi) (slice_get graph.edges edge) gap
