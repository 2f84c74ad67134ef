-- The links so far lead from the start to where the walk stands. What is left is bounded by the number of links.
use Rattle.std.proofs.Common.{◌-◌, ◌+◌, ◌≤◌, length, vec_len, vec_capacity}
use Rattle.tfpg_diff.specs.Demands.{demands_of}
use Rattle.tfpg_diff.specs.inside.Linked.{demands_linked}
use Rattle.tfpg_diff.specs.inside.Kept.{Walked}
use Rattle.tfpg_diff.proofs.walk.walk.Given as goal

abbrev pub invariant-loop-stands : goal.invariant-loop-stands
invariant-loop-stands l = record {
  walked : Walked (demands_linked (demands_of l.bounds l.picks) l.labels.links.items) l.from l.sought l.stands l.initial.cycle.items l.cycle.items;
  inside : l.stands ≤ length l.bounds;
  capacity : vec_capacity l.initial.cycle ≤ vec_capacity l.cycle;
}

abbrev pub decreases-loop-stands : goal.decreases-loop-stands
decreases-loop-stands l = vec_len l.initial.cycle + length l.bounds + 1 - vec_len l.cycle
