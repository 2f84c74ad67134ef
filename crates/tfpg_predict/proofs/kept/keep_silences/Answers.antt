use Rattle.tfpg_predict.proofs.lemmas.Tables.{silences_turn}
use Rattle.tfpg_predict.proofs.kept.keep_silences.Goals as goal

pub loop-node-preserved : goal.loop-node-preserved
loop-node-preserved c =
    silences_turn c.args.last.now c.args.number c.args.time c.loop-node.node c.args.into.now.items c.loop-node.into.items c.keep_silence.new.into.items c.loop-node.invariant c.in_ok-keep_silence.ensures
