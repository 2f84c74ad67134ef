-- The must clauses of one edge into an OR node, and those of an AND node.
use Rattle.std.specs.Prelude.{◌≡◌, ℕ, ◌<◌, List, [], ◌∷◌, length, All, Option, Some, None, IsTrue, IsSomeAnd, slice_get}
use Rattle.tfpg_base.specs.declared.constraint.Constraint.{Constraint}
use Rattle.tfpg_graph.specs.Graph.{Tfpg, is_kind_at, is_or, is_and, incoming}
use Rattle.tfpg_log.specs.Log.{Logbook}
use Rattle.tfpg_log.specs.Spans.{joint_of}
use Rattle.tfpg_log.specs.declared.span.Window.{Window}
use Rattle.tfpg_clause.specs.declared.clause_kind.ClauseKind.TheVariants.{OrMust, AndMust}
use Rattle.tfpg_clause.specs.declared.must_violated.Must.{Must}
use Rattle.tfpg_clause.specs.inside.FirstSpan.{clauses_of}
use Rattle.tfpg_clause.specs.inside.KnownWindows.{window_over}

-- The edges are the one edge, into an OR node, or else all edges into an AND node.
abbrev pub AreEdgesOf : Tfpg → ℕ → List ℕ → Option ℕ → Type 0
AreEdgesOf graph node edges (Some edge) =
    (edges ≡ edge ∷ []) × IsSomeAnd (slice_get graph.edges edge) (λ e. e.target ≡ node)
    × IsTrue (is_kind_at is_or graph node)
AreEdgesOf graph node edges None = (edges ≡ incoming graph node) × IsTrue (is_kind_at is_and graph node)

-- The node and the edges are of the graph, and such that there are must clauses of them.
pub record IsMustOf (graph : Tfpg) (must : Must) : Type 0 where
  pub node : must.node < length graph.nodes
  pub edges : All (λ edge. edge < length graph.edges) must.edges.now
  pub due : AreEdgesOf graph must.node must.edges.now must.edge

-- the must clauses by their spans, with the horizon now
abbrev pub musts_of : Tfpg → Logbook → ℕ → Option ℕ → ℕ → Option (List (List Constraint))
musts_of graph log node (Some edge) number = clauses_of graph log OrMust edge number
musts_of graph log node None number = clauses_of graph log AndMust node number

-- the window of a must clause round a span
abbrev pub window_by : Tfpg → Logbook → ℕ → Option ℕ → ℕ → ℕ → Option Window
window_by graph log node (Some edge) number horizon = window_over graph log number horizon edge
window_by graph log node None number horizon = joint_of graph log node number horizon
