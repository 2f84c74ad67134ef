-- Windows of edges that were found before.
use Rattle.std.specs.Prelude.{◌≡◌, ℕ, ◌<◌, List, length, Option, Some, None, IfSome, option_and_then, slice_get, slice_index_or}
use Rattle.tfpg_graph.specs.Graph.{Tfpg}
use Rattle.tfpg_log.specs.Log.{Logbook}
use Rattle.tfpg_log.specs.declared.span.Window.{Window}
use Rattle.tfpg_log.specs.Spans.{window_of}

-- The window of an edge round a span, by the number of the edge.
abbrev pub window_over : Tfpg → Logbook → ℕ → ℕ → ℕ → Option Window
window_over graph log number horizon edge =
    option_and_then (λ e. window_of log e number horizon) (slice_get graph.edges edge)

-- It is the window of the edge round some span.
abbrev pub IsWindowOver : Tfpg → Logbook → ℕ → ℕ → Window → Type 0
IsWindowOver graph log horizon edge window = (number : ℕ) × (window_over graph log number horizon edge ≡ Some window)

-- What is known at the index of an edge is a window of it.
abbrev pub AreKnown : Tfpg → Logbook → ℕ → List ℕ → List (Option Window) → Type 0
AreKnown graph log horizon edges known =
    (index : ℕ) → index < length edges
    → IfSome (slice_index_or known index None) (IsWindowOver graph log horizon (slice_index_or edges index 0))

-- At the index of each edge stands its window round the span, or none where there is none.
abbrev pub AreWindows : Tfpg → Logbook → ℕ → ℕ → List ℕ → List (Option Window) → Type 0
AreWindows graph log number horizon edges windows =
    (index : ℕ) → index < length edges
    → slice_index_or windows index None ≡ window_over graph log number horizon (slice_index_or edges index 0)
