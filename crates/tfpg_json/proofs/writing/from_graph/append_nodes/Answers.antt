use Rattle.std.proofs.Common.{codes, map, ap, ◌∙◌, arith}
use Rattle.std.proofs.lemmas.List.{take_all}
use Rattle.tfpg_graph.specs.Graph.{Node}
use Rattle.tfpg_graph.proofs.lemmas.NodeAt.{node_at}
use Rattle.tfpg_json.specs.GraphData.{kind_data}
use Rattle.tfpg_json.proofs.lemmas.DataLists.{item_next}
use Rattle.tfpg_json.proofs.lemmas.TokensWritten.{begun, item_written, list_ended_last}
use Rattle.tfpg_json.proofs.writing.from_graph.append_nodes.Goals as goal

pub loop-node-preserved : goal.loop-node-preserved
loop-node-preserved c =
    let graph = c.args.graph.now in
    let node = c.loop-node.node in (
      c.in_ok-append_node.ensures.before ∙ c.loop-node.invariant.0,
      item_written (begun c.args.into.now.tokens (codes "nodes")) _ _ _ _ _
          (item_next (λ (node : Node). kind_data node.name node.kind) graph.nodes node _ (node_at graph node _ _ c.node_name.ensures.at c.kind.ensures))
          c.loop-node.invariant.1 c.in_ok-append_node.ensures.ok,
    )

pub returns-clause-ok : goal.returns-clause-ok
returns-clause-ok c =
    list_ended_last c.args.into.now.tokens (codes "nodes") c.end_array.result _ _ _ _
    (ap (map (λ (node : Node). kind_data node.name node.kind)) (take_all c.loop-node.node c.args.graph.now.nodes (omega (arith, c.node_count-node-end.ensures.count, c.loop-node-test.false))))
    c.loop-node.invariant.1 c.end_array.ensures.ok
