use Rattle.std.proofs.Common.{◌∙◌, ◌++◌, ◌∷◌, [], sym, arith}
use Rattle.std.proofs.lemmas.List.FromFn.{map-range_with_len_more}
use Rattle.tfpg_predict.specs.inside.KeptEvents.{last_silence}
use Rattle.tfpg_predict.proofs.last_silences.last_silences.Goals as goal

pub loop-node-preserved : goal.loop-node-preserved
loop-node-preserved c =
    c.in_ok-push.ensures.items ∙ (λ i. c.loop-node.invariant i ++ c.last_silence.ensures i ∷ [])
    ∙ sym (map-range_with_len_more (last_silence c.args.graph.now c.args.log.now) 0 c.loop-node.node c.loop-node.node (omega arith))
