-- The outcomes so far, and that the events stay.
use Rattle.std.proofs.Common.{◌≡◌}
use Rattle.tfpg_whatif.specs.inside.Asking.{AreFound, asked_by}
use Rattle.tfpg_whatif.proofs.outcomes.outcomes_at.Given as goal

abbrev pub invariant-loop-number : goal.invariant-loop-number
invariant-loop-number g l = (l.log.events ≡ l.initial.log.events) × AreFound (asked_by l.asking l.initial.log) l.outcomes.items l.number-index
