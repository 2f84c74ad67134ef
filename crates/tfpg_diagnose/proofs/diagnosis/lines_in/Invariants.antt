use Rattle.std.proofs.Common.{◌≡◌}
use Rattle.tfpg_diagnose.proofs.diagnosis.lines_in.Given as goal

-- the lines so far are kept
abbrev pub invariant-loop-line : goal.invariant-loop-line
invariant-loop-line l = l.lines.items ≡ l.yielded
