-- What is kept, and what the trail saved so far.
use Rattle.std.proofs.Common.{◌≡◌, ◌≤◌, vec_capacity}
use Rattle.tfpg_diff.specs.Demands.{demands_of}
use Rattle.tfpg_diff.specs.inside.Kept.{AreKept}
use Rattle.tfpg_diff.specs.inside.Undone.{Remembers}
use Rattle.tfpg_diff.proofs.passes.relax_added.Given as goal

abbrev pub invariant-loop-index : goal.invariant-loop-index
invariant-loop-index l = record {
  kept : AreKept (demands_of l.bounds l.picks) l.labels.values.items l.labels.links.items;
  remembers : Remembers l.before l.initial.labels l.labels;
  no_cycle : l.cycle.items ≡ l.initial.cycle.items;
  capacity : vec_capacity l.initial.cycle ≤ vec_capacity l.cycle;
}
