-- The ages of all edges into a node by its joint window.
use Rattle.std.proofs.Common.{◌≡◌, ℕ, ◌+◌, ◌-◌, ◌≤◌, List, Some, arith}
use Rattle.std.specs.Prelude.{◌↔◌, IsTrue, All, Contains}
use Rattle.std.proofs.lemmas.List.Elements.{All-contains}
use Rattle.std.proofs.lemmas.List.Sums.{list_all-from_AllPass}
use Rattle.tfpg_base.specs.declared.activation.Activation.{Activation}
use Rattle.tfpg_base.proofs.lemmas.lists.Elements.{All-from_members}
use Rattle.tfpg_graph.specs.declared.edge.Edge.{Edge}
use Rattle.tfpg_graph.specs.Graph.{Tfpg, edges_into}
use Rattle.tfpg_log.specs.declared.span.Window.{Window}
use Rattle.tfpg_log.specs.Log.{Logbook, is_active_at}
use Rattle.tfpg_log.specs.Rules.{IsActive, HasAge}
use Rattle.tfpg_log.specs.Spans.{are_active_at, joint_of, window_of}
use Rattle.tfpg_log.specs.AgeInWindow.{HasAgeInWindow}
use Rattle.tfpg_log.proofs.lemmas.instants.MaximalRuns.{holds_since}
use Rattle.tfpg_log.proofs.lemmas.ages.WindowAges.{by_window}
use Rattle.tfpg_log.proofs.lemmas.instants.JointWindows.{is_joint, active_throughout, of_each}

module _ (graph : Tfpg) (log : Logbook) (trace : List Activation) (node number horizon instant age : ℕ) (joint : Window)
    (e : joint_of graph log node number horizon ≡ Some joint) (from : joint.lo ≤ instant) (upto : instant ≤ joint.hi) where
  -- In it an edge has an age exactly where its own window and the activation of its source have it.
  pub each_its_own : (edge : Edge) → Contains (edges_into graph node) edge
      → HasAge log trace edge instant age ↔ HasAgeInWindow (window_of log edge number horizon) trace edge instant age
  each_its_own edge member =
      let window = of_each graph log node number horizon joint e edge member in
      by_window log trace edge number horizon instant age window.0 window.1 (omega (arith, window.2, from)) (omega (arith, window.3, upto))

  -- In it all edges have an age exactly where it has it itself and each source is active since then.
  pub all_at_least : age ≤ instant → All (λ edge. HasAge log trace edge instant age) (edges_into graph node)
      ↔ ((joint.lo + age ≤ instant) × All (λ edge. IsActive trace edge.source (instant - age)) (edges_into graph node))
  all_at_least short = (
    λ all. (
      (holds_since (λ x. IsTrue (are_active_at graph log node x)) horizon joint.lo joint.hi instant age
          (is_joint graph log node number horizon joint e).run from upto short).0
          (λ x after before. list_all-from_AllPass (λ edge. is_active_at log edge x) (edges_into graph node)
          (λ k d within. (all k d within).active_since x after before)),
      λ k d within. let has = all k d within in (has.start, has.source, omega (arith, has.since)),
    ),
    λ both. All-from_members (λ edge. HasAge log trace edge instant age) (edges_into graph node)
        (λ edge member.
        let active = All-contains (λ other. IsActive trace other.source (instant - age)) (edges_into graph node) edge both.1 member in
        record {
          start = active.0;
          source = active.1;
          since = omega (arith, active.2, short);
          active_since =
              λ x after before. active_throughout graph log node number horizon joint e edge member x (omega (arith, both.0))
              (omega (arith, upto));
        }),
  )
