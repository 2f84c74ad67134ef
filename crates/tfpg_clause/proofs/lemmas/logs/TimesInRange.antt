-- The times of an ordered log, and the nodes of its events.
use Rattle.std.proofs.Common.{◌≡◌, ℕ, ◌≤◌, Option, Some, sym, ◌∙◌, arith}
use Rattle.std.specs.Prelude.{IfSome, option_and_then}
use Rattle.std.proofs.lemmas.Option.{option_and_then_some}
use Rattle.tfpg_base.specs.declared.limits.TheConstants.{MAX_TIME}
use Rattle.tfpg_base.proofs.lemmas.lists.Choices.{IfSome-from}
use Rattle.tfpg_graph.specs.Graph.{Tfpg}
use Rattle.tfpg_log.specs.Log.{Logbook, now_of, IsOrdered}
use Rattle.tfpg_log.specs.declared.span.Span.{Span}
use Rattle.tfpg_log.specs.declared.span.Window.{Window}
use Rattle.tfpg_graph.specs.declared.edge.Edge.{Edge}
use Rattle.tfpg_log.specs.Spans.{span_at, window_of, joint_of}
use Rattle.tfpg_log.proofs.lemmas.events.Order.{last_upto}
use Rattle.tfpg_log.proofs.lemmas.instants.SpanRuns.{is_span}
use Rattle.tfpg_log.proofs.lemmas.instants.WindowInstants.{is_window}
use Rattle.tfpg_log.proofs.lemmas.instants.JointWindows.{is_joint}
use Rattle.tfpg_clause.proofs.lemmas.logs.StaysAllowed.{window_by_now, joint_by_now}
use Rattle.tfpg_clause.specs.inside.Ranges.{IsSmallSpan, IsSmallWindow}

-- now is in range
pub now_in_range : (log : Logbook) → IsOrdered log → now_of log ≤ MAX_TIME
now_in_range log ordered = last_upto log.events 0 MAX_TIME (omega arith) ordered.in_range

-- a span of an ordered log is small
pub small_span : (log : Logbook) (number horizon : ℕ) (span : Span) → IsOrdered log → span_at log number horizon ≡ Some span
    → IsSmallSpan span
small_span log number horizon span ordered at =
    let is = is_span log number horizon span at in
    record { in_order = is.run.in_order; in_range = omega (arith, is.run.in_range, is.by_now, now_in_range log ordered) }

-- so is a window of an edge,
pub small_window : (log : Logbook) (edge : Edge) (number horizon : ℕ) (window : Window) → IsOrdered log
    → window_of log edge number horizon ≡ Some window → IsSmallWindow window
small_window log edge number horizon window ordered at =
    let is = is_window log edge number horizon window at in
    record {
      in_order = is.run.in_order;
      in_range = omega (
        arith,
        is.run.in_range,
        window_by_now log edge number horizon window at,
        now_in_range log ordered,
      );
    }

-- and a joint window
pub small_joint : (graph : Tfpg) (log : Logbook) (node number horizon : ℕ) (window : Window) → IsOrdered log
    → joint_of graph log node number horizon ≡ Some window → IsSmallWindow window
small_joint graph log node number horizon window ordered at =
    let is = is_joint graph log node number horizon window at in
    record {
      in_order = is.run.in_order;
      in_range = omega (
        arith,
        is.run.in_range,
        joint_by_now graph log node number horizon window at,
        now_in_range log ordered,
      );
    }

-- What a look-up of a span finds is in order and in range;
pub small_span_if : (log : Logbook) (number horizon : ℕ) (result : Option Span) → IsOrdered log → result ≡ span_at log number horizon
    → IfSome result IsSmallSpan
small_span_if log number horizon result ordered is =
    IfSome-from IsSmallSpan result (λ span at. small_span log number horizon span ordered (sym is ∙ at))

-- so is what a look-up of a joint window finds,
pub small_joint_if : (graph : Tfpg) (log : Logbook) (node number horizon : ℕ) (result : Option Window) → IsOrdered log
    → result ≡ joint_of graph log node number horizon → IfSome result IsSmallWindow
small_joint_if graph log node number horizon result ordered is =
    IfSome-from IsSmallWindow result (λ window at. small_joint graph log node number horizon window ordered (sym is ∙ at))

-- and what a look-up of the window of an edge finds.
pub small_window_if : (log : Logbook) (edge : Option Edge) (number horizon : ℕ) (result : Option Window) → IsOrdered log
    → result ≡ option_and_then (λ e. window_of log e number horizon) edge → IfSome result IsSmallWindow
small_window_if log edge number horizon result ordered is =
    IfSome-from IsSmallWindow result
    (λ window at. option_and_then_some (λ e. window_of log e number horizon) edge window (sym is ∙ at)
    (λ e there rest. small_window log e number horizon window ordered rest))
