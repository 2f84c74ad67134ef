-- The edges into a node are of the graph, and so are its failure modes.
use Rattle.std.proofs.Common.{◌≡◌, ℕ, ◌<◌, length, All, Some, ◌==◌}
use Rattle.tfpg_base.proofs.lemmas.lists.Elements.{All-at}
use Rattle.tfpg_base.proofs.lemmas.lists.Numbered.{All-below-numbers_from}
use Rattle.tfpg_graph.specs.declared.edge.Edge.{Edge}
use Rattle.tfpg_graph.specs.Graph.{Tfpg, Node, incoming, failures, failure_at, is_failure}

module _ (graph : Tfpg) where
  -- the edges into a node are edges of the graph
  pub incoming-below : (node : ℕ) → All (λ edge. edge < length graph.edges) (incoming graph node)
  incoming-below node = All-below-numbers_from (λ (edge : Edge). edge.target == node) graph.edges

  -- the node of a failure mode is a node of the graph
  pub failure_at-below : (position node : ℕ) → failure_at graph position ≡ Some node → node < length graph.nodes
  failure_at-below position node at =
      All-at (λ n. n < length graph.nodes) (failures graph) position node (All-below-numbers_from (λ (n : Node). is_failure n.kind) graph.nodes) at
