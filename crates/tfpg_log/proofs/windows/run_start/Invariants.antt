use Rattle.std.proofs.Common.{◌≤◌}
use Rattle.tfpg_log.specs.inside.ActiveModes.{AreActive}
use Rattle.tfpg_log.proofs.windows.run_start.Given as goal

abbrev pub invariant-loop-first : goal.invariant-loop-first
invariant-loop-first l = (l.first ≤ l.number) × AreActive l.modes l.changes l.first l.number

abbrev pub decreases-loop-first : goal.decreases-loop-first
decreases-loop-first l = l.first
