-- The node that is probed, by its name, and what may be asked of it.
use Rattle.std.specs.Prelude.{ℕ, ◌<◌, ◌≤◌, List, nat_lt, if◌then◌else◌, length, Result, Err, ok_or}
use Rattle.tfpg_base.specs.declared.limits.TheConstants.{MAX_TIME}
use Rattle.tfpg_graph.specs.Graph.{Tfpg, node_named}
use Rattle.tfpg_graph.specs.declared.limits.TheConstants.{MAX_NODES, MAX_EDGES}
use Rattle.tfpg_answers.specs.declared.predict.probing.ProbeFault.{ProbeFault}
use Rattle.tfpg_answers.specs.declared.predict.probing.ProbeFault.TheVariants.{TooManyNodes, TooManyEdges, UnknownNode}

-- The number of the node of this name, or the first cause for which it takes no probe: the graph has no room for one node more, or
-- for one edge more, or has no such node.
abbrev pub probed_node : Tfpg → List ℕ → Result ℕ ProbeFault
probed_node graph name =
    if nat_lt (length graph.nodes) MAX_NODES
    then (if nat_lt (length graph.edges) MAX_EDGES then ok_or (node_named graph name) UnknownNode else Err TooManyEdges)
    else Err TooManyNodes

-- The node is one of the graph, which has room for a probe, and it is not looked too far ahead.
pub record CanForecast (graph : Tfpg) (node ahead : ℕ) : Type 0 where
  pub in_graph : node < length graph.nodes
  pub few_nodes : length graph.nodes < MAX_NODES
  pub few_edges : length graph.edges < MAX_EDGES
  pub not_far : ahead ≤ MAX_TIME
