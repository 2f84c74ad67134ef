use Rattle.std.proofs.Common.{◌≡◌, ℕ, ◌+◌, ◌<◌, length}
use Rattle.tfpg_log.specs.Log.{Logbook}
use Rattle.tfpg_sim.specs.inside.ModeSpans.{AreSpans}
use Rattle.tfpg_sim.specs.inside.Settling.{simulation_case, IsCandidate, candidate_at}
use Rattle.tfpg_sim.proofs.candidates.first_candidates.Given as goal

-- the candidates of the nodes so far
abbrev pub invariant-loop-node : goal.invariant-loop-node
invariant-loop-node l = record {
  count : length l.candidates.items ≡ l.node;
  each : (log : Logbook) (limit : ℕ) → AreSpans log (limit + 1) 0 l.delayed.spans.now
      → (k : ℕ) → k < l.node → IsCandidate (simulation_case l.delayed.graph.now log l.delayed.delays.now limit) l.trace k (candidate_at l.candidates.items k);
}
