use Rattle.std.proofs.Common.{◌≤◌, take}
use Rattle.tfpg_sim.proofs.lemmas.flights.SplitSpans.{IsSplit}
use Rattle.tfpg_sim.proofs.mode_spans.spans_of.Given as goal
use Rattle.tfpg_sim.specs.inside.Arrivals.{AreNearSpans, far}

-- the spans that the lines so far have ended, and the current one
abbrev pub invariant-loop-entry : goal.invariant-loop-entry
invariant-loop-entry l = record {
  split : IsSplit l.stop (take l.entry-index l.entries) l.spans.items l.current;
  small : AreNearSpans l.spans.items;
  now : l.current.lo ≤ far;
}
