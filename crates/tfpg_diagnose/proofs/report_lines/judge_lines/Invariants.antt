use Rattle.std.proofs.Common.{◌-◌, ◌+◌}
use Rattle.tfpg_base.specs.declared.limits.TheConstants.{MAX_BYTES}
use Rattle.tfpg_diagnose.specs.inside.JudgingUnderWay.{IsJudging, checking_at}
use Rattle.tfpg_diagnose.proofs.report_lines.judge_lines.Given as goal

-- the lines so far are right
abbrev pub invariant-loop-lines : goal.invariant-loop-lines
invariant-loop-lines g l = IsJudging l.fn.judge (g.S.Source.state l.fn.input) (checking_at (g.S.Source.state l.input) l.lines l.judge)

-- there are no more lines than bytes that are taken, but for a last one
abbrev pub decreases-loop-lines : goal.decreases-loop-lines
decreases-loop-lines g l = MAX_BYTES + 2 - l.lines.number
