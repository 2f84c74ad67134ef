use Rattle.tfpg_trace.proofs.lemmas.FirstNodes.{KeepRulesBefore-more}
use Rattle.tfpg_trace.proofs.rules.broken_rule.Goals as goal

pub loop-node-preserved : goal.loop-node-preserved
loop-node-preserved c =
    KeepRulesBefore-more c.args.graph.now c.args.log.now c.args.trace.now c.loop-node.node c.loop-node.invariant c.in_default.ensures
