-- A fresh computation, which meets no negative cycle.
use Rattle.tfpg_diff.specs.Demands.{demands_of}
use Rattle.tfpg_diff.proofs.lemmas.Fresh.{AreKept-fresh, no_cycle-solvable}
use Rattle.tfpg_diff.proofs.passes.compute_afresh.Goals as goal

pub lower_until_met-requires-clause-kept : goal.lower_until_met-requires-clause-kept
lower_until_met-requires-clause-kept c =
    AreKept-fresh c.args.bounds.now c.args.picks.now c.start.new.labels.values.items c.start.new.labels.links.items c.requires.solvable c.start.ensures.ceilings

pub unreachable-requires : goal.unreachable-requires
unreachable-requires c =
    no_cycle-solvable (demands_of c.args.bounds.now c.args.picks.now) c.lower_until_met.new.cycle.items c.requires.solvable c.in-Err.ensures.cycle
