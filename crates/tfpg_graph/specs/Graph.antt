-- What a timed failure propagation graph is.
use Rattle.std.specs.Prelude.{ℕ, ◌<◌, List, [], length, filter, All, slice_get, Bool, true, false, ◌&&◌, not, ◌==◌, Option, None, is_some, option_map, option_and_then, unwrap_or, bytes_eq, position}
use Rattle.std.specs.Int.{bit_at}
use Rattle.std.specs.Option.{option_map_or}
use Rattle.tfpg_base.specs.Choice.{numbers_from}
use Rattle.tfpg_base.specs.Set.{Rises}
use Rattle.tfpg_graph.specs.declared.kind.Kind.{Kind}
use Rattle.tfpg_graph.specs.declared.kind.Lag.{Lag}
use Rattle.tfpg_graph.specs.declared.kind.Kind.TheVariants.{Failure, Or, And}
use Rattle.tfpg_graph.specs.declared.edge.Edge.{Edge}

-- a failure mode or a discrepancy, with its name
pub record Node : Type 0 where
  pub name : List ℕ
  pub kind : Kind

-- A timed failure propagation graph. Nodes, edges and modes are numbered from 0, in this order. The first mode
-- holds in the beginning.
pub record Tfpg : Type 0 where
  pub nodes : List Node
  pub edges : List Edge
  pub modes : List (List ℕ)

-- a failure mode
abbrev pub is_failure : Kind → Bool
is_failure (Failure rarity) = true
is_failure _ = false

-- a discrepancy that is activated from any source
abbrev pub is_or : Kind → Bool
is_or (Or lag) = true
is_or _ = false

-- a discrepancy that is activated from all its sources at once
abbrev pub is_and : Kind → Bool
is_and (And lag) = true
is_and _ = false

-- a lag from 0 up to this
abbrev pub lag_up_to : ℕ → Lag
lag_up_to most = record { least = 0; most = most }

-- the lag of a monitored discrepancy
abbrev pub lag_of : Kind → Option Lag
lag_of (Failure rarity) = None
lag_of (Or lag) = lag
lag_of (And lag) = lag

-- its least lag is 0, or it has no lag
abbrev pub has_zero_least : Kind → Bool
has_zero_least kind = option_map_or (λ lag. lag.least == 0) (lag_of kind) true

-- what the node of this number is
abbrev pub kind_at : Tfpg → ℕ → Option Kind
kind_at graph node = option_map (λ n. n.kind) (slice_get graph.nodes node)

-- whether the node of this number is of such a kind
abbrev pub is_kind_at : (Kind → Bool) → Tfpg → ℕ → Bool
is_kind_at is_kind graph node = option_map_or is_kind (kind_at graph node) false

-- the node of this number is not a failure mode
abbrev pub is_discrepancy : Tfpg → ℕ → Bool
is_discrepancy graph node = not (is_kind_at is_failure graph node)

-- the lag of the node of this number, where it is monitored
abbrev pub lag_at : Tfpg → ℕ → Option Lag
lag_at graph node = option_and_then lag_of (kind_at graph node)

-- the lag of the node of this number, and from 0 up to 0 where it is not monitored
abbrev pub lag_or_zero : Tfpg → ℕ → Lag
lag_or_zero graph node = unwrap_or (lag_at graph node) (lag_up_to 0)

-- the node of this number is a discrepancy with a monitor
abbrev pub is_monitored : Tfpg → ℕ → Bool
is_monitored graph node = is_some (lag_at graph node)

-- The nodes that are failure modes. The index of one in this list is its position.
abbrev pub failures : Tfpg → List ℕ
failures graph = numbers_from 0 (λ node. is_failure node.kind) graph.nodes

-- each is the position of a failure mode
abbrev pub AreFailures : Tfpg → List ℕ → Type 0
AreFailures graph set = All (λ position. position < length (failures graph)) set

-- a set of failure modes of the graph, as the rising list of their positions
pub record IsSetOf (graph : Tfpg) (set : List ℕ) : Type 0 where
  pub rising : Rises set
  pub members : AreFailures graph set

-- how many nodes, edges and failure modes a graph has
pub record Sizes : Type 0 where
  pub nodes : ℕ
  pub edges : ℕ
  pub failures : ℕ

-- the sizes of a graph
abbrev pub sizes_of : Tfpg → Sizes
sizes_of graph = record { nodes = length graph.nodes; edges = length graph.edges; failures = length (failures graph) }

-- the node of the failure mode at a position
abbrev pub failure_at : Tfpg → ℕ → Option ℕ
failure_at graph position = slice_get (failures graph) position

-- the numbers of the edges into a node, rising
abbrev pub incoming : Tfpg → ℕ → List ℕ
incoming graph node = numbers_from 0 (λ edge. edge.target == node) graph.edges

-- the edges into a node, in order
abbrev pub edges_into : Tfpg → ℕ → List Edge
edges_into graph node = filter (λ edge. edge.target == node) graph.edges

-- the bit of the mode is set in these
abbrev pub has_mode_bit : ℕ → ℕ → Bool
has_mode_bit bits mode = bit_at bits mode == 1

-- An edge is active in a mode where the bit of the mode is set.
abbrev pub is_active_in : Edge → ℕ → Bool
is_active_in edge mode = has_mode_bit edge.modes mode

-- the number of the node of this name
abbrev pub node_named : Tfpg → List ℕ → Option ℕ
node_named graph name = position (λ node. bytes_eq node.name name) graph.nodes

-- the number of the mode of this name
abbrev pub mode_named : Tfpg → List ℕ → Option ℕ
mode_named graph name = position (λ mode. bytes_eq mode name) graph.modes

-- the name of the node of this number
abbrev pub name_at : Tfpg → ℕ → Option (List ℕ)
name_at graph node = option_map (λ n. n.name) (slice_get graph.nodes node)

-- a node's name
abbrev pub name_word : Tfpg → ℕ → List ℕ
name_word graph node = unwrap_or (name_at graph node) []

-- the name of the failure mode at a position
abbrev pub failure_word : Tfpg → ℕ → List ℕ
failure_word graph position = unwrap_or (option_and_then (name_at graph) (failure_at graph position)) []

-- the number of the edge from the one node to the other
abbrev pub edge_from_to : Tfpg → ℕ → ℕ → Option ℕ
edge_from_to graph source target = position (λ edge. (edge.source == source) && (edge.target == target)) graph.edges

-- the position of a failure mode
abbrev pub position_of_failure : Tfpg → ℕ → Option ℕ
position_of_failure graph node = position (λ failure. failure == node) (failures graph)
