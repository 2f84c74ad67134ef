use Rattle.std.proofs.Common.{◌≡◌, take}
use Rattle.tfpg_sim.specs.SimulatedLog.{set_of}
use Rattle.tfpg_sim.proofs.started_set.started_set.Given as goal

-- the failure modes that the lines so far start
abbrev pub invariant-loop-entry : goal.invariant-loop-entry
invariant-loop-entry l = l.set ≡ set_of l.graph (take l.entry-index l.entries)
