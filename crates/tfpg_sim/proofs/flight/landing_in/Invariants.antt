use Rattle.std.proofs.Common.{◌≡◌, ℕ, ◌+◌, length, drop}
use Rattle.tfpg_log.specs.Log.{Logbook}
use Rattle.tfpg_sim.specs.inside.ModeSpans.{AreSpans}
use Rattle.tfpg_sim.proofs.lemmas.flights.Landing.{IsBefore}
use Rattle.tfpg_sim.proofs.flight.landing_in.Given as goal

-- nothing has landed before the next span
abbrev pub invariant-loop-span : goal.invariant-loop-span
invariant-loop-span l = record {
  room : length l.pendings ≡ length l.flights;
  before : (log : Logbook) (limit : ℕ) → AreSpans log (limit + 1) 0 l.spans
      → (begin : ℕ) × IsBefore log limit l.flights l.needs_all begin (drop l.span-index l.spans) l.pendings;
}
