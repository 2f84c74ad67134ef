use Rattle.std.proofs.Common.{ℕ, ◌↔◌}
use Rattle.tfpg_sim.specs.inside.Flights.{IsReached}
use Rattle.tfpg_sim.proofs.lemmas.flights.ReachedTimes.{SomeBelow}
use Rattle.tfpg_sim.proofs.flight.soonest.Given as goal

-- from when on one of the times so far is reached
abbrev pub invariant-loop-pending : goal.invariant-loop-pending
invariant-loop-pending l = (x : ℕ) → IsReached l.first x ↔ SomeBelow l.pendings l.pending-index x
