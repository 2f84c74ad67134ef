use Rattle.std.proofs.Common.{◌≡◌, length}
use Rattle.tfpg_evidence_tests.proofs.fleet.take_lines.Given as goal

-- there are as many vehicles as before
abbrev pub invariant-loop-line : goal.invariant-loop-line
invariant-loop-line g l = length l.fleet.vehicles ≡ length l.fn.fleet.vehicles
