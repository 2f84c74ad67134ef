-- The checkers so far.
use Rattle.std.proofs.Common.{take}
use Rattle.tfpg_check.specs.inside.Kept.{AreNewCheckers}
use Rattle.tfpg_check.proofs.kept_hypotheses.new_checkers.Given as goal

abbrev pub invariant-loop-number : goal.invariant-loop-number
invariant-loop-number l = AreNewCheckers (take l.number l.table.reaches) l.checkers.items
