use Rattle.std.proofs.Common.{length, arith, sym, ◌∙◌, ap}
use Rattle.tfpg_hyp.proofs.lemmas.MonitorNumbers.{monitors-none, counted-with, monitors-without, monitors-all}
use Rattle.tfpg_hyp.proofs.monitors.monitor_count.Goals as goal
use Rattle.tfpg_hyp.proofs.monitors.monitor_count.Goals.{then-is_monitored, else-is_monitored}

pub loop-node-init : goal.loop-node-init
loop-node-init c = (sym (ap length (monitors-none c.args.graph.now)), omega arith)

pub loop-node-preserved : goal.loop-node-preserved
loop-node-preserved c =
    elim c.if-is_monitored.branch [
      | then-is_monitored w ↦ rw w.count-is (
        counted-with c.args.graph.now c.loop-node.node c.loop-node.count (sym c.is_monitored.ensures ∙ w.if-is_monitored.true) c.loop-node.invariant.0,
        omega (arith, c.loop-node.invariant.1),
      )
      | else-is_monitored w ↦ rw w.count-is (
        c.loop-node.invariant.0 ∙ sym (ap length (monitors-without c.args.graph.now c.loop-node.node (sym c.is_monitored.ensures ∙ w.if-is_monitored.false))),
        omega (arith, c.loop-node.invariant.1),
      )
    ]

pub returns : goal.returns
returns c =
    c.loop-node.invariant.0
    ∙ ap length (monitors-all c.args.graph.now c.loop-node.node (omega (arith, c.loop-node-test.false, c.loop-node.auto.node-end, c.node_count-node-end.ensures.count)))
