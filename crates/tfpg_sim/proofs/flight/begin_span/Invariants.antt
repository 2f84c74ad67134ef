use Rattle.std.proofs.Common.{◌≡◌, ℕ, ◌<◌, ◌≤◌, Some, None, get_or, length, slice_get}
use Rattle.tfpg_sim.specs.declared.flight.Flight.{Flight}
use Rattle.tfpg_sim.specs.inside.Flights.{pending_in}
use Rattle.tfpg_sim.proofs.flight.begin_span.Given as goal

abbrev pub invariant-loop-index : goal.invariant-loop-index
invariant-loop-index l = record {
  entered : (k : ℕ) (flight : Flight) → k < l.index → slice_get l.flights k ≡ Some flight
      → get_or l.pendings k None ≡ pending_in l.span flight (get_or l.fn.pendings k None);
  left : (k : ℕ) → l.index ≤ k → get_or l.pendings k None ≡ get_or l.fn.pendings k None;
  room : length l.pendings ≡ length l.flights;
}
