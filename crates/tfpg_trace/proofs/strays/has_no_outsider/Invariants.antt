-- None of the activations so far is of a failure mode outside the set.
use Rattle.std.proofs.Common.{◌<◌, length, take}
use Rattle.std.specs.Prelude.{All}
use Rattle.tfpg_base.specs.declared.activation.Activation.{Activation}
use Rattle.tfpg_trace.specs.inside.Strays.{IsOutside}
use Rattle.tfpg_trace.proofs.strays.has_no_outsider.Given as goal

abbrev pub invariant-loop-activation : goal.invariant-loop-activation
invariant-loop-activation l =
    All (λ (a : Activation). a.node < length l.graph.nodes → IsOutside l.graph l.set a.node → ⊥) (take l.activation-index l.activations)
