use Rattle.std.proofs.Common.{◌<◌, length, All, subst, ◌∙◌, arith}
use Rattle.std.proofs.lemmas.List.{take_all}
use Rattle.std.proofs.lemmas.List.Elements.{All-more}
use Rattle.tfpg_model_tests.proofs.trace.is_of.Goals as goal

pub loop-activation-preserved : goal.loop-activation-preserved
loop-activation-preserved c =
    All-more (λ activation. activation.node < length c.args.graph.now.nodes) c.as_slice-activations.result.now c.loop-activation.activation-index
    (record { node = 0; time = 0 }) c.loop-activation-test.true c.loop-activation.invariant (omega (arith, c.node_count.ensures.count, c.if-activation-node_count.false))

pub returns : goal.returns
returns c passed =
    subst (All (λ activation. activation.node < length c.args.graph.now.nodes))
    (take_all c.loop-activation.activation-index c.as_slice-activations.result.now c.loop-activation-test.false ∙ c.as_slice-activations.ensures.value)
    c.loop-activation.invariant
