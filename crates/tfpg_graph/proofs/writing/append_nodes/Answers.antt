use Rattle.std.proofs.Common.{arith}
use Rattle.tfpg_base.proofs.lemmas.Appended.{Appends-err_after}
use Rattle.tfpg_base.proofs.lemmas.lists.Appended.{appended_next, appended_all}
use Rattle.tfpg_graph.specs.Text.{node_text}
use Rattle.tfpg_graph.proofs.lemmas.NodeAt.{node_at}
use Rattle.tfpg_graph.proofs.writing.append_nodes.Goals as goal

pub returns-in_err-append_node : goal.returns-in_err-append_node
returns-in_err-append_node c = Appends-err_after _ _ _ _ _ _ c.from_residual.ensures.0 c.loop-node.invariant c.in_err-append_node.ensures

pub loop-node-preserved : goal.loop-node-preserved
loop-node-preserved c =
    appended_next (node_text c.args.version) c.args.graph.now.nodes c.loop-node.node _ _ _ _
    (node_at c.args.graph.now c.loop-node.node _ _ c.name.ensures.at c.kind.ensures) c.loop-node.invariant c.in_ok-append_node.ensures

pub returns : goal.returns
returns c = appended_all (node_text c.args.version) c.args.graph.now.nodes c.loop-node.node _ _ (omega arith) c.loop-node.invariant
