-- Of the picks that were tested those after the last that was broken are met, and the values sum up to less where one was.
use Rattle.std.proofs.Common.{◌≡◌, ◌≤◌, vec_capacity}
use Rattle.tfpg_diff.specs.Demands.{demands_of}
use Rattle.tfpg_diff.specs.inside.Kept.{AreKept, Passes}
use Rattle.tfpg_diff.specs.inside.Undone.{Remembers}
use Rattle.tfpg_diff.proofs.passes.pass.Given as goal

abbrev pub invariant-loop-index : goal.invariant-loop-index
invariant-loop-index l = record {
  kept : AreKept (demands_of l.bounds l.picks) l.labels.values.items l.labels.links.items;
  passes : Passes l.picks l.index l.initial.labels.values.items l.last l.labels.values.items;
  remembers : Remembers l.before l.initial.labels l.labels;
  no_cycle : l.cycle.items ≡ l.initial.cycle.items;
  capacity : vec_capacity l.initial.cycle ≤ vec_capacity l.cycle;
}
