use Rattle.std.proofs.Common.{◌≤◌, ◌-◌, length}
use Rattle.tfpg_log.specs.inside.SpanIndex.{begin_of_span}
use Rattle.tfpg_log.specs.inside.ActiveModes.{AreActive}
use Rattle.tfpg_log.proofs.windows.run_end.Given as goal

abbrev pub invariant-loop-last : goal.invariant-loop-last
invariant-loop-last l =
    (l.number ≤ l.last) × (l.last ≤ length l.changes) × (begin_of_span l.changes l.last ≤ l.horizon)
    × AreActive l.modes l.changes l.number l.last

abbrev pub decreases-loop-last : goal.decreases-loop-last
decreases-loop-last l = length l.initial.changes - l.last
