-- The steps along edges that may take no time, and groups of nodes by them. No public contract cites this.
use Rattle.std.specs.Prelude.{◌≡◌, ℕ, ◌<◌, ◌≤◌, Bool, true, false, List, [], ◌∷◌, ◌++◌, length, Option, Some, slice_get, Contains}
use Rattle.tfpg_graph.specs.declared.edge.Edge.{Edge}
use Rattle.tfpg_graph.specs.Graph.{Tfpg}
use Rattle.tfpg_graph.specs.Valid.{WalksInNoTime}
use Rattle.tfpg_graph.specs.inside.zero_cycle.ZeroSearch.{IsStep, mark_of, IsMarked}

-- where a step along the edge begins
abbrev pub step_begin : Bool → Edge → ℕ
step_begin false edge = edge.source
step_begin true edge = edge.target

-- where a step along the edge ends
abbrev pub step_end : Bool → Edge → ℕ
step_end false edge = edge.target
step_end true edge = edge.source

-- A step from the one node to the other is along one of the edges, which may take no time.
pub record IsZeroStep (edges : List Edge) (reversed : Bool) (from to : ℕ) : Type 0 where
  pub edge : Edge
  pub among : Contains edges edge
  pub no_time : edge.tmin ≡ 0
  pub begins : step_begin reversed edge ≡ from
  pub ends : step_end reversed edge ≡ to

-- Between this many nodes these are the steps along the edges that may take no time.
pub record AreZeroSteps (count : ℕ) (edges : List Edge) (reversed : Bool) (rows : List (List ℕ)) : Type 0 where
  pub row_count : length rows ≡ count
  pub along : (from to : ℕ) → IsStep rows from to → IsZeroStep edges reversed from to
  pub all : (from to : ℕ) → IsZeroStep edges reversed from to → IsStep rows from to

-- the steps with that along one more edge, where this may take no time
abbrev pub AddsZeroStep : Bool → Edge → List (List ℕ) → List (List ℕ) → Type 0
AddsZeroStep reversed edge rows more =
    (edges : List Edge) → AreZeroSteps (length rows) edges reversed rows
    → AreZeroSteps (length rows) (edges ++ edge ∷ []) reversed more

-- Each node has a mark, by which no edge that may take no time goes down; between nodes with one mark one can walk in
-- no time.
pub record AreZeroGroups (graph : Tfpg) (marks : List (Option ℕ)) : Type 0 where
  pub count : length marks ≡ length graph.nodes
  pub all : (node : ℕ) → node < length graph.nodes → IsMarked marks node
  pub rises : (edge : Edge) (mark : ℕ) → Contains graph.edges edge → edge.tmin ≡ 0
      → mark_of marks edge.source ≡ Some mark
      → (above : ℕ) × (mark_of marks edge.target ≡ Some above) × (mark ≤ above)
  pub joined : (from to mark : ℕ) → mark_of marks from ≡ Some mark → mark_of marks to ≡ Some mark
      → (steps : ℕ) × WalksInNoTime graph from to steps

-- the edge may take no time, and its ends have one mark
abbrev pub StaysInGroup : List (Option ℕ) → Edge → Type 0
StaysInGroup marks edge = (edge.tmin ≡ 0) × (mark_of marks edge.source ≡ mark_of marks edge.target)

-- no edge before this number may take no time and has ends with one mark
abbrev pub NoneStaysBefore : Tfpg → List (Option ℕ) → ℕ → Type 0
NoneStaysBefore graph marks end =
    (number : ℕ) → number < end → (edge : Edge) → slice_get graph.edges number ≡ Some edge → StaysInGroup marks edge
    → ⊥
