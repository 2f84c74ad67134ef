-- Spans of one mode, and the windows of spans in which an edge, or all edges into a node, are active.
use Rattle.std.specs.Prelude.{ℕ, zero, suc, ◌+◌, max, Bool, ◌&&◌, nat_le, ◌==◌, if◌then◌else◌, Option, Some, None, option_map, option_and_then}
use Rattle.std.specs.Bool.{then_some}
use Rattle.std.specs.List.{list_all}
use Rattle.tfpg_base.specs.Trials.{least, greatest}
use Rattle.tfpg_graph.specs.declared.edge.Edge.{Edge}
use Rattle.tfpg_graph.specs.Graph.{Tfpg, edges_into}
use Rattle.tfpg_log.specs.declared.span.Span.{Span}
use Rattle.tfpg_log.specs.declared.span.Window.{Window}
use Rattle.tfpg_log.specs.Log.{Logbook, now_of, mode_at, is_active_at}

-- the number of the span of an instant: how many times the mode changed from one instant to the next up to it
abbrev pub span_number : Logbook → ℕ → ℕ
span_number log zero = 0
span_number log (suc instant) =
    span_number log instant + (if mode_at log instant == mode_at log (suc instant) then 0 else 1)

-- the span between two instants
abbrev pub span_between : Logbook → Option ℕ → Option ℕ → Option Span
span_between log (Some lo) (Some hi) = Some (record { lo = lo; hi = hi; mode = mode_at log lo })
span_between log _ _ = None

-- the first instant of the span that is not before this one
abbrev pub first_from : Span → ℕ → Option ℕ
first_from span instant = then_some (nat_le (max instant span.lo) span.hi) (max instant span.lo)

-- the span of a number, of the instants up to a horizon that is not after now
abbrev pub span_at : Logbook → ℕ → ℕ → Option Span
span_at log number horizon =
    if nat_le horizon (now_of log)
    then span_between log (least (λ instant. span_number log instant == number) horizon)
    (greatest (λ instant. span_number log instant == number) horizon)
    else None

-- the first instant of the run of passing instants up to one that passes
abbrev pub run_start : (ℕ → Bool) → ℕ → ℕ
run_start passes zero = 0
run_start passes (suc instant) = if passes instant then run_start passes instant else suc instant

-- the last instant, up to a horizon, of the run of passing instants from this one on
abbrev pub run_end : (ℕ → Bool) → ℕ → ℕ → Option ℕ
run_end passes instant horizon =
    greatest (λ last. nat_le instant last && (passes last && nat_le (run_start passes last) instant)) horizon

-- the window between two instants
abbrev pub window_between : Logbook → ℕ → Option ℕ → Option Window
window_between log lo end = option_map (λ hi. record { first = span_number log lo; lo = lo; hi = hi }) end

-- The window round a span up to a horizon: the maximal run of passing instants that the span lies in. There is none where
-- the span's own instants do not pass.
abbrev pub window_round : Logbook → (ℕ → Bool) → Span → ℕ → Option Window
window_round log passes span horizon =
    if passes span.lo then window_between log (run_start passes span.lo) (run_end passes span.lo horizon) else None

-- each edge into the node is active in the mode of the instant
abbrev pub are_active_at : Tfpg → Logbook → ℕ → ℕ → Bool
are_active_at graph log node instant = list_all (λ edge. is_active_at log edge instant) (edges_into graph node)

-- the maximal window round a span in which the edge is active
abbrev pub window_of : Logbook → Edge → ℕ → ℕ → Option Window
window_of log edge number horizon =
    option_and_then (λ span. window_round log (is_active_at log edge) span horizon) (span_at log number horizon)

-- the maximal window round a span in which all edges into the node are active at once
abbrev pub joint_of : Tfpg → Logbook → ℕ → ℕ → ℕ → Option Window
joint_of graph log node number horizon =
    option_and_then (λ span. window_round log (are_active_at graph log node) span horizon) (span_at log number horizon)
