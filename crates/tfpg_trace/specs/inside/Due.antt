-- When a node must be active, and from which instant of a span on.
use Rattle.std.specs.Prelude.{◌≡◌, ℕ, ◌+◌, ◌<◌, ◌≤◌, IfSome, ◌⊎◌, List, All, Contains, IsTrue, Option, Some, None, slice_get}
use Rattle.tfpg_base.specs.declared.activation.Activation.{Activation}
use Rattle.tfpg_base.specs.Trace.{time_of}
use Rattle.tfpg_graph.specs.declared.edge.Edge.{Edge}
use Rattle.tfpg_graph.specs.Graph.{Tfpg, is_kind_at, is_or, is_and, edges_into}
use Rattle.tfpg_log.specs.Log.{Logbook}
use Rattle.tfpg_log.specs.Rules.{IsDue}

-- Of the instants from the one to the other something holds exactly from this one on.
pub record BeginsAt (Holds : ℕ → Type 0) (lo hi begin : ℕ) : Type 0 where
  pub from : lo ≤ begin
  pub upto : begin ≤ hi
  pub not_before : (instant : ℕ) → lo ≤ instant → instant < begin → Holds instant → ⊥
  pub since : (instant : ℕ) → begin ≤ instant → instant ≤ hi → Holds instant

-- where it begins to hold, to stay; with none it holds of none of them
abbrev pub Begins : (ℕ → Type 0) → ℕ → ℕ → Option ℕ → Type 0
Begins Holds lo hi None = (instant : ℕ) → lo ≤ instant → instant ≤ hi → Holds instant → ⊥
Begins Holds lo hi (Some begin) = BeginsAt Holds lo hi begin

-- the edge of this number in the graph is due
abbrev pub IsDueBy : Tfpg → Logbook → List Activation → ℕ → ℕ → Type 0
IsDueBy graph log trace edge instant =
    (e : Edge) × (slice_get graph.edges edge ≡ Some e) × IsDue log trace e instant

-- some edge into the node is due
abbrev pub SomeDue : Tfpg → Logbook → List Activation → ℕ → ℕ → Type 0
SomeDue graph log trace node instant =
    (edge : Edge) × Contains (edges_into graph node) edge × IsDue log trace edge instant

-- each edge into the node is due
abbrev pub AllDue : Tfpg → Logbook → List Activation → ℕ → ℕ → Type 0
AllDue graph log trace node instant = All (λ edge. IsDue log trace edge instant) (edges_into graph node)

-- a discrepancy must be active
abbrev pub MustBeActive : Tfpg → Logbook → List Activation → ℕ → ℕ → Type 0
MustBeActive graph log trace node instant =
    (IsTrue (is_kind_at is_or graph node) × SomeDue graph log trace node instant)
    ⊎ (IsTrue (is_kind_at is_and graph node) × AllDue graph log trace node instant)

-- The edge can become due before a time, where there is one: its greatest delay is finite, and passes before then from where
-- its source becomes active.
pub record CanBeDue (trace : List Activation) (until : Option ℕ) (edge : Edge) : Type 0 where
  pub delay : ℕ
  pub finite : edge.tmax ≡ Some delay
  pub start : ℕ
  pub source : time_of trace edge.source ≡ Some start
  pub before : IfSome until (λ time. start + delay < time)

-- some edge into the node can become due before the time
abbrev pub SomeCanBeDue : Tfpg → List Activation → ℕ → Option ℕ → Type 0
SomeCanBeDue graph trace node until = (edge : Edge) × Contains (edges_into graph node) edge × CanBeDue trace until edge

-- each edge into the node can become due before the time
abbrev pub AllCanBeDue : Tfpg → List Activation → ℕ → Option ℕ → Type 0
AllCanBeDue graph trace node until = All (CanBeDue trace until) (edges_into graph node)
