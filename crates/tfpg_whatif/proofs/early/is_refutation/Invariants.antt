-- The first steps are taken.
use Rattle.std.proofs.Common.{take}
use Rattle.tfpg_whatif.specs.inside.Early.{HasTakenAll}
use Rattle.tfpg_whatif.proofs.early.is_refutation.Given as goal

abbrev pub invariant-loop-step : goal.invariant-loop-step
invariant-loop-step l = HasTakenAll l.subject.graph.now l.subject.log.now l.subject.reach (take l.step-index l.steps) l.checker
