-- The links so far lead from the start to where the walk stands, and there are fewer from there to zero.
use Rattle.std.proofs.Common.{◌≤◌, length}
use Rattle.tfpg_diff.specs.Demands.{demands_of}
use Rattle.tfpg_diff.specs.inside.Linked.{demands_linked}
use Rattle.tfpg_diff.specs.inside.Kept.{LeadsTo}
use Rattle.tfpg_diff.proofs.lemmas.Climb.{depth}
use Rattle.tfpg_diff.proofs.walk.leads_to.Given as goal

abbrev pub invariant-loop-stands : goal.invariant-loop-stands
invariant-loop-stands l = record {
  leads : LeadsTo (demands_linked (demands_of l.bounds l.picks) l.labels.links.items) l.from l.sought l.stands;
  inside : l.stands ≤ length l.bounds;
}

abbrev pub decreases-loop-stands : goal.decreases-loop-stands
decreases-loop-stands l =
    depth (demands_linked (demands_of l.bounds l.picks) l.labels.links.items)
    (length (demands_linked (demands_of l.bounds l.picks) l.labels.links.items)) l.stands
