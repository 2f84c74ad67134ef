-- The windows round an instant.
use Rattle.std.proofs.Common.{◌≡◌, ℕ, ◌≤◌, Bool, Some, subst, arith}
use Rattle.std.specs.Prelude.{IsTrue}
use Rattle.tfpg_graph.specs.declared.edge.Edge.{Edge}
use Rattle.tfpg_graph.specs.Graph.{is_active_in}
use Rattle.tfpg_log.specs.declared.span.Window.{Window}
use Rattle.tfpg_log.specs.Log.{Logbook, now_of, mode_at, is_active_at}
use Rattle.tfpg_log.specs.Spans.{span_number, window_of}
use Rattle.tfpg_log.specs.Runs.{LiesIn, IsWindowRound}
use Rattle.tfpg_log.proofs.lemmas.instants.MaximalRuns.{one_beginning}
use Rattle.tfpg_log.proofs.lemmas.instants.SpanRuns.{is_span, has_span}
use Rattle.tfpg_log.proofs.lemmas.instants.WindowRuns.{edge_window, edge_window_there}

-- An instant lies in each window round the span of its number.
pub lies_in : (log : Logbook) (passes : ℕ → Bool) (instant horizon : ℕ) (window : Window) → instant ≤ horizon
    → IsWindowRound log passes (span_number log instant) horizon window → (window.lo ≤ instant) × (instant ≤ window.hi)
lies_in log passes instant horizon window within is =
    let by_now = (is_span log (span_number log instant) horizon is.round.0 is.round.1).by_now in
    let there = has_span log instant horizon within by_now in
    let same : is.round.0 ≡ there.0 = cc (is.round.1, there.1) in
    let lies : LiesIn there.0 window = subst (λ span. LiesIn span window) same is.round.2 in
    (omega (arith, lies.0, there.2), omega (arith, lies.1, there.3))

-- A window is the one round the span of each of its instants.
pub round_each : (log : Logbook) (passes : ℕ → Bool) (number horizon instant : ℕ) (window : Window)
    → IsWindowRound log passes number horizon window
    → window.lo ≤ instant → instant ≤ window.hi → IsWindowRound log passes (span_number log instant) horizon window
round_each log passes number horizon instant window is from upto =
    let by_now = (is_span log number horizon is.round.0 is.round.1).by_now in
    let there = has_span log instant horizon (omega (arith, upto, is.run.in_range)) by_now in
    record {
      run = is.run;
      whole_spans = is.whole_spans;
      round = (
        there.0,
        there.1,
        is.whole_spans (span_number log instant) there.0 there.1
            (omega (arith, from, there.3), omega (arith, there.2, upto)),
      );
      first_span = is.first_span;
    }

module _ (log : Logbook) (edge : Edge) where
  -- The windows of an edge are runs.
  pub is_window : (number horizon : ℕ) (window : Window) → window_of log edge number horizon ≡ Some window
      → IsWindowRound log (is_active_at log edge) number horizon window
  is_window number horizon window e = (edge_window log edge number horizon window).0 e

  -- The instant lies in the window round its span, and the edge is active there.
  pub inside : (instant horizon : ℕ) (window : Window) → instant ≤ horizon
      → window_of log edge (span_number log instant) horizon ≡ Some window
      → (window.lo ≤ instant) × (instant ≤ window.hi) × IsTrue (is_active_at log edge instant)
  inside instant horizon window within e =
      let is = is_window (span_number log instant) horizon window e in
      let lies = lies_in log (is_active_at log edge) instant horizon window within is in
      (lies.0, lies.1, is.run.throughout instant lies.0 lies.1)

  -- There is a window round the span of each instant at which the edge is active.
  pub window_there : (instant horizon : ℕ) → instant ≤ horizon → horizon ≤ now_of log → IsTrue (is_active_at log edge instant)
      → (window : Window) × (window_of log edge (span_number log instant) horizon ≡ Some window) × (window.lo ≤ instant)
      × (instant ≤ window.hi)
  window_there instant horizon within by_now active =
      let number : ℕ = span_number log instant in
      let there = has_span log instant horizon within by_now in
      let mode : mode_at log instant ≡ there.0.mode = (is_span log number horizon there.0 there.1).run.throughout instant there.2 there.3 in
      let window = edge_window_there log edge number horizon there.0 there.1 (subst (λ m. IsTrue (is_active_in edge m)) mode active) in
      let lies = inside instant horizon window.0 within window.1 in
      (window.0, window.1, lies.0, lies.1)

  -- A window is the one round the span of each of its instants.
  pub throughout : (number horizon instant : ℕ) (window : Window) → window_of log edge number horizon ≡ Some window → window.lo ≤ instant
      → instant ≤ window.hi
      → window_of log edge (span_number log instant) horizon ≡ Some window
  throughout number horizon instant window e from upto =
      (edge_window log edge (span_number log instant) horizon window).1
      (round_each log (is_active_at log edge) number horizon instant window (is_window number horizon window e) from upto)

  -- It begins at the same instant for each horizon.
  pub begins : (instant horizon further : ℕ) (window other : Window) → instant ≤ horizon
      → window_of log edge (span_number log instant) horizon ≡ Some window
      → instant ≤ further → window_of log edge (span_number log instant) further ≡ Some other → window.lo ≡ other.lo
  begins instant horizon further window other within e within_further f =
      let lies = inside instant horizon window within e in
      let others = inside instant further other within_further f in
      one_beginning (λ x. IsTrue (is_active_at log edge x)) horizon further window.lo window.hi other.lo other.hi instant
      (is_window (span_number log instant) horizon window e).run (is_window (span_number log instant) further other f).run
      lies.0 lies.1 others.0 others.1
