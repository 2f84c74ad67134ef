-- The clauses of each kind, as the code finds them one by one. Those on an edge take the edge itself.
use Rattle.std.specs.Prelude.{ℕ, List, [], ◌∷◌, Option}
use Rattle.tfpg_base.specs.declared.constraint.Constraint.{Constraint}
use Rattle.tfpg_graph.specs.declared.edge.Edge.{Edge}
use Rattle.tfpg_graph.specs.Graph.{Tfpg, is_kind_at, is_or, is_and, edges_into}
use Rattle.tfpg_log.specs.Log.{Logbook}
use Rattle.tfpg_log.specs.Spans.{window_of, joint_of}
use Rattle.tfpg_clause.specs.Clauses.{may_by, must_by, dues_of}

-- the clause that an OR node becomes active in a span only where the failure arrives by some edge
abbrev pub or_may : Tfpg → Logbook → ℕ → ℕ → ℕ → Option (List (List Constraint))
or_may graph log node number horizon =
    may_by log (is_kind_at is_or graph node) node (edges_into graph node) number horizon

-- the clause that an AND node becomes active in a span only where the failure arrives by this edge
abbrev pub and_may : Tfpg → Logbook → Edge → ℕ → ℕ → Option (List (List Constraint))
and_may graph log edge number horizon =
    may_by log (is_kind_at is_and graph edge.target) edge.target (edge ∷ []) number horizon

-- the clause that an OR node is active once the failure is due by this edge
abbrev pub or_must : Tfpg → Logbook → Edge → ℕ → ℕ → Option (List (List Constraint))
or_must graph log edge number horizon =
    must_by (is_kind_at is_or graph edge.target) edge.target number (window_of log edge number horizon)
    (dues_of log number horizon (edge ∷ []))

-- the clause that an AND node is active once the failure is due by all edges
abbrev pub and_must : Tfpg → Logbook → ℕ → ℕ → ℕ → Option (List (List Constraint))
and_must graph log node number horizon =
    must_by (is_kind_at is_and graph node) node number (joint_of graph log node number horizon)
    (dues_of log number horizon (edges_into graph node))
