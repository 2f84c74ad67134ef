-- A joint window is what the windows of all edges into a node have in common.
use Rattle.std.proofs.Common.{◌≡◌, ℕ, ◌+◌, ◌-◌, ◌<◌, ◌≤◌, false, Some, inl, inr, refl, subst, arith}
use Rattle.std.specs.Prelude.{IsTrue, Contains}
use Rattle.std.specs.List.{list_all}
use Rattle.std.proofs.lemmas.Bool.{both_ways, false_from_ne_true, cases_lt}
use Rattle.std.proofs.lemmas.List.Sums.{AllPass-from_list_all}
use Rattle.tfpg_base.proofs.lemmas.lists.Elements.{list_all-fails, list_all-each}
use Rattle.tfpg_graph.specs.declared.edge.Edge.{Edge}
use Rattle.tfpg_graph.specs.Graph.{Tfpg, is_active_in, edges_into}
use Rattle.tfpg_log.specs.declared.span.Window.{Window}
use Rattle.tfpg_log.specs.Log.{Logbook, now_of, mode_at, is_active_at}
use Rattle.tfpg_log.specs.Spans.{span_number, are_active_at, window_of, joint_of}
use Rattle.tfpg_log.specs.Runs.{LiesIn, IsWindowRound}
use Rattle.tfpg_log.proofs.lemmas.instants.MaximalRuns.{takes_in}
use Rattle.tfpg_log.proofs.lemmas.instants.SpanRuns.{is_span, has_span}
use Rattle.tfpg_log.proofs.lemmas.instants.WindowRuns.{edge_window_there, node_window, node_window_there}
use Rattle.tfpg_log.proofs.lemmas.instants.WindowInstants.{lies_in, round_each, is_window}

module _ (graph : Tfpg) (log : Logbook) (node : ℕ) where
  -- The joint windows of a node are runs.
  pub is_joint : (number horizon : ℕ) (joint : Window) → joint_of graph log node number horizon ≡ Some joint
      → IsWindowRound log (are_active_at graph log node) number horizon joint
  is_joint number horizon joint e = (node_window graph log node number horizon joint).0 e

  -- The instant lies in the joint window round its span, and all edges are active there.
  pub inside : (instant horizon : ℕ) (joint : Window) → instant ≤ horizon
      → joint_of graph log node (span_number log instant) horizon ≡ Some joint
      → (joint.lo ≤ instant) × (instant ≤ joint.hi) × IsTrue (are_active_at graph log node instant)
  inside instant horizon joint within e =
      let is = is_joint (span_number log instant) horizon joint e in
      let lies = lies_in log (are_active_at graph log node) instant horizon joint within is in
      (lies.0, lies.1, is.run.throughout instant lies.0 lies.1)

  -- There is one round the span of each instant at which all edges are active.
  pub joint_there : (instant horizon : ℕ) → instant ≤ horizon → horizon ≤ now_of log → IsTrue (are_active_at graph log node instant)
      → (joint : Window) × (joint_of graph log node (span_number log instant) horizon ≡ Some joint) × (joint.lo ≤ instant)
      × (instant ≤ joint.hi)
  joint_there instant horizon within by_now active =
      let number : ℕ = span_number log instant in
      let there = has_span log instant horizon within by_now in
      let mode : mode_at log instant ≡ there.0.mode = (is_span log number horizon there.0 there.1).run.throughout instant there.2 there.3 in
      let joint = node_window_there graph log node number horizon there.0 there.1
      (AllPass-from_list_all (λ edge. is_active_in edge there.0.mode) (edges_into graph node)
      (subst (λ m. IsTrue (list_all (λ edge. is_active_in edge m) (edges_into graph node))) mode active)) in
      let lies = inside instant horizon joint.0 within joint.1 in
      (joint.0, joint.1, lies.0, lies.1)

  -- A joint window is the one round the span of each of its instants.
  pub throughout : (number horizon instant : ℕ) (joint : Window) → joint_of graph log node number horizon ≡ Some joint → joint.lo ≤ instant
      → instant ≤ joint.hi
      → joint_of graph log node (span_number log instant) horizon ≡ Some joint
  throughout number horizon instant joint e from upto =
      (node_window graph log node (span_number log instant) horizon joint).1
      (round_each log (are_active_at graph log node) number horizon instant joint (is_joint number horizon joint e) from upto)

  module _ (number horizon : ℕ) (joint : Window) (e : joint_of graph log node number horizon ≡ Some joint) where
    -- Each edge is active throughout.
    pub active_throughout : (edge : Edge) → Contains (edges_into graph node) edge → (x : ℕ) → joint.lo ≤ x → x ≤ joint.hi
        → IsTrue (is_active_at log edge x)
    active_throughout edge member x from upto =
        list_all-each (λ other. is_active_at log other x) (edges_into graph node) edge
        ((is_joint number horizon joint e).run.throughout x from upto) member

    -- it has a span in common with the window of each edge
    meets_window : (edge : Edge) (window : Window) → IsWindowRound log (is_active_at log edge) number horizon window
        → (window.lo ≤ joint.hi) × (joint.lo ≤ window.hi)
    meets_window edge window its =
        let span = (is_joint number horizon joint e).round in
        let order = (is_span log number horizon span.0 span.1).run.in_order in
        let same : its.round.0 ≡ span.0 = cc (its.round.1, span.1) in
        let lies : LiesIn span.0 window = subst (λ s. LiesIn s window) same its.round.2 in
        (omega (arith, lies.0, order, span.2.1), omega (arith, span.2.0, order, lies.1))

    -- It lies in the window of each edge.
    pub of_each : (edge : Edge) → Contains (edges_into graph node) edge
        → (window : Window) × (window_of log edge number horizon ≡ Some window) × (window.lo ≤ joint.lo) × (joint.hi ≤ window.hi)
    of_each edge member =
        let is = is_joint number horizon joint e in
        let span = is.round in
        let run = (is_span log number horizon span.0 span.1).run in
        let mode : mode_at log span.0.lo ≡ span.0.mode = run.throughout span.0.lo (omega arith) run.in_order in
        let active = active_throughout edge member span.0.lo span.2.0 (omega (arith, run.in_order, span.2.1)) in
        let window = edge_window_there log edge number horizon span.0 span.1 (subst (λ m. IsTrue (is_active_in edge m)) mode active) in
        let its = is_window log edge number horizon window.0 window.1 in
        let meets = meets_window edge window.0 its in
        let lies = takes_in (λ x. IsTrue (is_active_at log edge x)) horizon window.0.lo window.0.hi joint.lo joint.hi its.run
        (active_throughout edge member) is.run.in_range meets.0 meets.1 in
        (window.0, window.1, lies.0, lies.1)

    -- It begins with the window of some edge, where it begins after 0.
    pub begins : 0 < joint.lo
        → (edge : Edge) × Contains (edges_into graph node) edge × (window : Window) × (window_of log edge number horizon ≡ Some window)
        × (window.lo ≡ joint.lo)
    begins behind =
        let is = is_joint number horizon joint e in
        let before : ℕ = joint.lo - 1 in
        let fails : are_active_at graph log node before ≡ false =
        false_from_ne_true (are_active_at graph log node before) (is.run.not_before before (omega arith)) in
        let some = list_all-fails (λ edge. is_active_at log edge before) (edges_into graph node) fails in
        let window = of_each some.0 some.1 in
        let run = (is_window log some.0 number horizon window.0 window.1).run in
        let from : joint.lo ≤ window.0.lo = elim (cases_lt window.0.lo joint.lo) [
          | inl earlier ↦
              absurd
              (both_ways (is_active_at log some.0 before) some.2
              (run.throughout before (omega arith) (omega (arith, is.run.in_order, window.3))))
          | inr upto ↦ upto
        ] in
        (some.0, some.1, window.0, window.1, omega (arith, window.2, from))

    -- It ends with the window of some edge, where it ends before the horizon.
    pub ends : joint.hi < horizon
        → (edge : Edge) × Contains (edges_into graph node) edge × (window : Window) × (window_of log edge number horizon ≡ Some window)
        × (window.hi ≡ joint.hi)
    ends early =
        let is = is_joint number horizon joint e in
        let behind : ℕ = joint.hi + 1 in
        let fails : are_active_at graph log node behind ≡ false =
        false_from_ne_true (are_active_at graph log node behind) (is.run.not_after behind refl (omega arith)) in
        let some = list_all-fails (λ edge. is_active_at log edge behind) (edges_into graph node) fails in
        let window = of_each some.0 some.1 in
        let run = (is_window log some.0 number horizon window.0 window.1).run in
        let upto : window.0.hi ≤ joint.hi = elim (cases_lt joint.hi window.0.hi) [
          | inl later ↦
              absurd
              (both_ways (is_active_at log some.0 behind) some.2
              (run.throughout behind (omega (arith, is.run.in_order, window.2)) (omega arith)))
          | inr within ↦ within
        ] in
        (some.0, some.1, window.0, window.1, omega (arith, window.3, upto))
