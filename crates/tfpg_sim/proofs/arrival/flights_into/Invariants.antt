use Rattle.std.proofs.Common.{◌≡◌, take, filter_map}
use Rattle.tfpg_sim.specs.inside.Arrivals.{flight_over}
use Rattle.tfpg_sim.proofs.arrival.flights_into.Given as goal

-- the flights over the edges so far
abbrev pub invariant-loop-number : goal.invariant-loop-number
invariant-loop-number l = l.flights.items ≡ filter_map (flight_over l.graph l.delays l.trace) (take l.number-index l.incoming)
