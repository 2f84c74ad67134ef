-- Where the edges of a graph lead.
use Rattle.std.specs.Prelude.{◌≡◌, ◌↔◌, ℕ, List, [], length, slice_index_or, Contains}
use Rattle.tfpg_graph.specs.declared.edge.Edge.{Edge}

-- Some of the edges leads from the one node to the other.
abbrev pub LeadsTo : List Edge → ℕ → ℕ → Type 0
LeadsTo edges from to = (edge : Edge) × Contains edges edge × (edge.source ≡ from) × (edge.target ≡ to)

-- These are, for each of so many nodes, the nodes to which the edges lead from it.
pub record AreOnward (count : ℕ) (edges : List Edge) (rows : List (List ℕ)) : Type 0 where
  pub row_count : length rows ≡ count
  pub exact : (from to : ℕ) → Contains (slice_index_or rows from []) to ↔ LeadsTo edges from to
