use Rattle.std.proofs.Common.{◌≡◌, take}
use Rattle.tfpg_predict.specs.Probed.{without_probe}
use Rattle.tfpg_predict.proofs.without_probe.without_probe.Given as goal

abbrev pub invariant-loop-activation : goal.invariant-loop-activation
invariant-loop-activation l = l.rest ≡ without_probe l.probe (take l.activation-index l.trace)
