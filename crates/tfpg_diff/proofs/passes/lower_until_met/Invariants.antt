-- Each pass that lowers leaves a smaller sum of the values, and the picks from the limit on are met.
use Rattle.std.proofs.Common.{◌≡◌, ◌≤◌, length, sum, vec_capacity}
use Rattle.tfpg_diff.specs.Demands.{demands_of}
use Rattle.tfpg_diff.specs.inside.Kept.{AreKept, AreMetFrom}
use Rattle.tfpg_diff.specs.inside.Undone.{Remembers}
use Rattle.tfpg_diff.proofs.passes.lower_until_met.Given as goal

abbrev pub invariant-loop-last : goal.invariant-loop-last
invariant-loop-last l = record {
  kept : AreKept (demands_of l.bounds l.picks) l.labels.values.items l.labels.links.items;
  met : AreMetFrom l.labels.values.items l.picks l.limit (length l.picks);
  remembers : Remembers l.before l.initial.labels l.labels;
  no_cycle : l.cycle.items ≡ l.initial.cycle.items;
  capacity : vec_capacity l.initial.cycle ≤ vec_capacity l.cycle;
}

abbrev pub decreases-loop-last : goal.decreases-loop-last
decreases-loop-last l = sum l.labels.values.items
