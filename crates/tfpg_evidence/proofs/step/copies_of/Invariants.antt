-- The copies so far.
use Rattle.std.proofs.Common.{◌≡◌, take}
use Rattle.tfpg_evidence.proofs.step.copies_of.Given as goal

abbrev pub invariant-loop-step : goal.invariant-loop-step
invariant-loop-step l = l.copies.items ≡ take l.step-index l.steps
