use Rattle.std.proofs.Common.{◌≡◌, ◌+◌, List, take, subst, sym}
use Rattle.tfpg_base.specs.declared.activation.Activation.{Activation}
use Rattle.tfpg_base.specs.Trace.{IsRisingByNode}
use Rattle.tfpg_predict.specs.Probed.{without_probe}
use Rattle.tfpg_predict.proofs.lemmas.explained.ProbedTraces.{without_more}
use Rattle.tfpg_predict.proofs.without_probe.without_probe.Goals as goal

pub loop-activation-preserved : goal.loop-activation-preserved
loop-activation-preserved c =
    subst (λ (items : List Activation). c.activate_other.new.rest ≡ without_probe c.args.probe (take (c.loop-activation.activation-index + 1) items)) c.as_slice-activation-items.ensures.value
    (without_more c.args.probe c.as_slice-activation-items.result.now c.loop-activation.activation-index (record { node = 0; time = 0 })
    (subst IsRisingByNode (sym c.as_slice-activation-items.ensures.value) c.is_always_rising.ensures) c.loop-activation-test.true c.loop-activation.rest c.activate_other.new.rest
    (subst (λ (items : List Activation). c.loop-activation.rest ≡ without_probe c.args.probe (take c.loop-activation.activation-index items)) (sym c.as_slice-activation-items.ensures.value)
    c.loop-activation.invariant)
    c.in_ok-activate_other.ensures)
