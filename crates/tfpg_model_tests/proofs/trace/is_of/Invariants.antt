use Rattle.std.proofs.Common.{◌<◌, length, take, All}
use Rattle.tfpg_model_tests.proofs.trace.is_of.Given as goal

abbrev pub invariant-loop-activation : goal.invariant-loop-activation
invariant-loop-activation l = All (λ activation. activation.node < length l.graph.nodes) (take l.activation-index l.activations)
