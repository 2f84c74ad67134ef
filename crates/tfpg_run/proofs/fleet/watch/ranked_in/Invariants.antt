use Rattle.std.proofs.Common.{ℕ, ◌<◌}
use Rattle.std.specs.Prelude.{◌↔◌, Contains, IsTrue}
use Rattle.tfpg_run.specs.fleet.Counting.{ranks}
use Rattle.tfpg_run.proofs.fleet.watch.ranked_in.Given as goal

-- the positions below that are ranked
abbrev pub invariant-loop-position : goal.invariant-loop-position
invariant-loop-position l = (other : ℕ) → Contains l.ranked other ↔ ((other < l.position) × IsTrue (ranks other l.round))
