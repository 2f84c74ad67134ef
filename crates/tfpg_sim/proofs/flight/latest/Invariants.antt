use Rattle.std.proofs.Common.{ℕ, ◌≤◌, ◌↔◌}
use Rattle.tfpg_sim.proofs.lemmas.flights.ReachedTimes.{EachBelow}
use Rattle.tfpg_sim.proofs.flight.latest.Given as goal

-- from when on the times so far are reached
abbrev pub invariant-loop-pending : goal.invariant-loop-pending
invariant-loop-pending l = (x : ℕ) → (l.last ≤ x) ↔ EachBelow l.pendings l.pending-index x
