-- How failures propagate: the age of an edge, and when a discrepancy may and when it must become active.
use Rattle.std.specs.Prelude.{◌≡◌, ℕ, ◌+◌, ◌<◌, ◌≤◌, List, length, All, Contains, IsTrue, Some}
use Rattle.tfpg_base.specs.declared.activation.Activation.{Activation}
use Rattle.tfpg_base.specs.Trace.{time_of, IsRisingByNode}
use Rattle.tfpg_graph.specs.declared.edge.Edge.{Edge}
use Rattle.tfpg_graph.specs.Graph.{Tfpg, is_kind_at, is_or, is_and, edges_into}
use Rattle.tfpg_log.specs.Log.{Logbook, now_of, is_active_at}

-- the trace gives the node a time of at most this instant
abbrev pub IsActive : List Activation → ℕ → ℕ → Type 0
IsActive trace node instant = (time : ℕ) × (time_of trace node ≡ Some time) × (time ≤ instant)

-- The edge has an age of at least so many milliseconds at an instant: its source is active since then or longer, and
-- each instant since then has a mode in which the edge is active.
pub record HasAge (log : Logbook) (trace : List Activation) (edge : Edge) (instant age : ℕ) : Type 0 where
  pub start : ℕ
  pub source : time_of trace edge.source ≡ Some start
  pub since : start + age ≤ instant
  pub active_since : (x : ℕ) → instant ≤ x + age → x ≤ instant → IsTrue (is_active_at log edge x)

-- the age of an edge at an instant: the greatest that it has
pub record IsAge (log : Logbook) (trace : List Activation) (edge : Edge) (instant age : ℕ) : Type 0 where
  pub has : HasAge log trace edge instant age
  pub greatest : (other : ℕ) → HasAge log trace edge instant other → other ≤ age

-- an edge into the node has carried the failure for its least delay
abbrev pub SomeArrives : Tfpg → Logbook → List Activation → ℕ → ℕ → Type 0
SomeArrives graph log trace node instant =
    (edge : Edge) × Contains (edges_into graph node) edge × HasAge log trace edge instant edge.tmin

-- each edge into the node has carried the failure for its least delay
abbrev pub AllArrive : Tfpg → Logbook → List Activation → ℕ → ℕ → Type 0
AllArrive graph log trace node instant = All (λ edge. HasAge log trace edge instant edge.tmin) (edges_into graph node)

-- A discrepancy becomes active only where the failure arrives: by some edge at an OR node, by all edges at once at an
-- AND node.
pub record KeepsMay (graph : Tfpg) (log : Logbook) (trace : List Activation) (node instant : ℕ) : Type 0 where
  pub or_node : IsTrue (is_kind_at is_or graph node) → time_of trace node ≡ Some instant
      → SomeArrives graph log trace node instant
  pub and_node : IsTrue (is_kind_at is_and graph node) → time_of trace node ≡ Some instant
      → AllArrive graph log trace node instant

-- the edge has carried the failure for its greatest delay, which is finite
abbrev pub IsDue : Logbook → List Activation → Edge → ℕ → Type 0
IsDue log trace edge instant = (tmax : ℕ) × (edge.tmax ≡ Some tmax) × HasAge log trace edge instant tmax

-- A discrepancy is active once the failure is due: by some edge at an OR node, by all edges at once at an AND node.
pub record KeepsMust (graph : Tfpg) (log : Logbook) (trace : List Activation) (node instant : ℕ) : Type 0 where
  pub or_node : IsTrue (is_kind_at is_or graph node) → (edge : Edge) → Contains (edges_into graph node) edge
      → IsDue log trace edge instant → IsActive trace node instant
  pub and_node : IsTrue (is_kind_at is_and graph node)
      → All (λ edge. IsDue log trace edge instant) (edges_into graph node) → IsActive trace node instant

-- The propagation rules hold for a node at each instant up to now.
pub record KeepsRulesOf (graph : Tfpg) (log : Logbook) (trace : List Activation) (node : ℕ) : Type 0 where
  pub may : (instant : ℕ) → instant ≤ now_of log → KeepsMay graph log trace node instant
  pub must : (instant : ℕ) → instant ≤ now_of log → KeepsMust graph log trace node instant

-- The propagation rules hold for each node of the graph.
abbrev pub KeepsRules : Tfpg → Logbook → List Activation → Type 0
KeepsRules graph log trace = (node : ℕ) → node < length graph.nodes → KeepsRulesOf graph log trace node

-- a finite map from nodes of the graph to times
abbrev pub IsTraceOf : Tfpg → List Activation → Type 0
IsTraceOf graph trace = IsRisingByNode trace × All (λ activation. activation.node < length graph.nodes) trace
