use Rattle.tfpg_trace.specs.inside.Shown.{IsNotQuiet}
use Rattle.tfpg_trace.proofs.lemmas.FirstNodes.{NoneBefore-more}
use Rattle.tfpg_trace.proofs.silences.first_not_quiet.Goals as goal

pub loop-node-preserved : goal.loop-node-preserved
loop-node-preserved c =
    NoneBefore-more
    (IsNotQuiet c.args.graph.now c.args.log.now c.args.trace.now c.args.number) c.loop-node.node c.loop-node.invariant c.in_default.ensures
