use Rattle.std.proofs.Common.{◌≡◌, [], length}
use Rattle.std.specs.Prelude.{slice_index_or}
use Rattle.tfpg_run.specs.fleet.Counting.{is_in, modes_text, vehicles_that}
use Rattle.tfpg_run.proofs.fleet.counting.counts_of.Given as goal

-- the failure modes so far have their lines
abbrev pub invariant-loop-position : goal.invariant-loop-position
invariant-loop-position l = l.text.items ≡ modes_text l.graph (λ position. vehicles_that (λ number. is_in position (slice_index_or l.ranked number [])) (length l.ranked)) l.position
