use Rattle.std.proofs.Common.{refl, arith}
use Rattle.std.proofs.lemmas.Bool.{iff_false}
use Rattle.tfpg_trace.proofs.lemmas.ShownByNode.{ShowNodesBefore-more, all_shown, node_shown}
use Rattle.tfpg_trace.proofs.all_shown.shows_all.Goals as goal

pub returns-then-not-shows_node : goal.returns-then-not-shows_node
returns-then-not-shows_node c = (
  λ false. absurd cc,
  λ shows. absurd
      (iff_false c.shows_node.ensures c.if-not-shows_node.true
      (node_shown c.args.graph.now c.args.log.now c.args.trace.now shows c.loop-node.node)),
)

pub loop-node-preserved : goal.loop-node-preserved
loop-node-preserved c =
    ShowNodesBefore-more c.args.graph.now c.args.log.now c.args.trace.now c.loop-node.node c.loop-node.invariant
    (c.shows_node.ensures.0 c.if-not-shows_node.false)

pub returns : goal.returns
returns c = (
  λ _. all_shown c.args.graph.now c.args.log.now c.args.trace.now c.requires
      (λ node within. c.loop-node.invariant node (omega (arith, within, c.loop-node-test.false, c.node_count-node-end.ensures.count))),
  λ _. refl,
)
