use Rattle.std.proofs.Common.{◌≡◌, ◌≤◌, take, length}
use Rattle.tfpg_clause.specs.Paths.{next_leaf}
use Rattle.tfpg_clause.proofs.path.unfinished.Given as goal

abbrev pub invariant-loop-kept : goal.invariant-loop-kept
invariant-loop-kept l = record { within : l.kept ≤ length l.path; same : next_leaf l.path ≡ next_leaf (take l.kept l.path) }

abbrev pub decreases-loop-kept : goal.decreases-loop-kept
decreases-loop-kept l = l.kept
