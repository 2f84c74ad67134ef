use Rattle.std.proofs.Common.{◌≡◌, ◌≤◌, []}
use Rattle.std.specs.Prelude.{slice_index_or}
use Rattle.tfpg_run.specs.fleet.Counting.{is_in, vehicles_that}
use Rattle.tfpg_run.proofs.fleet.counting.vehicles_with.Given as goal

-- so many of the sets so far
abbrev pub invariant-loop-set : goal.invariant-loop-set
invariant-loop-set l = record {
  counted : l.count ≡ vehicles_that (λ number. is_in l.position (slice_index_or l.ranked number [])) l.set-index;
  few : l.count ≤ l.set-index;
}
