use Rattle.std.proofs.Common.{◌++◌, ◌∷◌, [], arith, sym, ◌∙◌, ap}
use Rattle.tfpg_hyp.proofs.lemmas.MonitorNumbers.{monitors-none, monitors-with, monitors-without, monitors-all}
use Rattle.tfpg_hyp.proofs.monitors.monitors_of.Goals as goal
use Rattle.tfpg_hyp.proofs.monitors.monitors_of.Goals.{then-is_monitored+in_ok-push, else-is_monitored}

pub loop-node-init : goal.loop-node-init
loop-node-init c = c.new-nodes.ensures.items ∙ sym (monitors-none c.args.graph.now)

pub loop-node-preserved : goal.loop-node-preserved
loop-node-preserved c =
    elim c.if-is_monitored.branch [
      | then-is_monitored+in_ok-push w ↦ rw w.nodes-is
          (w.in_ok-push.ensures.items ∙ ap (λ nodes. nodes ++ c.loop-node.node ∷ []) c.loop-node.invariant
          ∙ sym (monitors-with c.args.graph.now c.loop-node.node (sym c.is_monitored.ensures ∙ w.if-is_monitored.true)))
      | else-is_monitored w ↦ rw w.nodes-is
          (c.loop-node.invariant ∙ sym (monitors-without c.args.graph.now c.loop-node.node (sym c.is_monitored.ensures ∙ w.if-is_monitored.false)))
    ]

pub returns : goal.returns
returns c = c.loop-node.invariant ∙ monitors-all c.args.graph.now c.loop-node.node (omega (arith, c.loop-node-test.false, c.loop-node.auto.node-end, c.node_count-node-end.ensures.count))
