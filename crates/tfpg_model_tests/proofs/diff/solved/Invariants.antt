-- There are as many bounds as variables.
use Rattle.std.proofs.Common.{◌≡◌, length}
use Rattle.tfpg_model_tests.proofs.diff.solved.Given as goal

abbrev pub invariant-loop-variable : goal.invariant-loop-variable
invariant-loop-variable g l = length l.system.demands.bounds ≡ l.case.count

abbrev pub invariant-loop-variable-2 : goal.invariant-loop-variable-2
invariant-loop-variable-2 g l = length l.system.demands.bounds ≡ l.case.count

abbrev pub invariant-loop-left : goal.invariant-loop-left
invariant-loop-left g l = length l.system.demands.bounds ≡ l.case.count
