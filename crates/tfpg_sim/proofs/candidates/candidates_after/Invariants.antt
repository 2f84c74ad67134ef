use Rattle.std.proofs.Common.{◌≡◌, ℕ, ◌+◌, ◌<◌, List, length, None}
use Rattle.tfpg_base.specs.declared.activation.Activation.{Activation}
use Rattle.tfpg_base.specs.Trace.{time_of, with_time}
use Rattle.tfpg_log.specs.Log.{Logbook}
use Rattle.tfpg_sim.specs.inside.ModeSpans.{AreSpans}
use Rattle.tfpg_sim.specs.inside.Settling.{simulation_case, IsCandidate, AreCandidates, candidate_at}
use Rattle.tfpg_sim.proofs.candidates.candidates_after.Given as goal

-- the candidates of the nodes so far
abbrev pub invariant-loop-node : goal.invariant-loop-node
invariant-loop-node l = record {
  count : length l.next.items ≡ l.node;
  each : (log : Logbook) (limit : ℕ) (before : List Activation) (time : ℕ) → AreSpans log (limit + 1) 0 l.delayed.spans.now
      → l.trace ≡ with_time l.settled time before → time_of before l.settled ≡ None → AreCandidates (simulation_case l.delayed.graph.now log l.delayed.delays.now limit) before l.candidates
      → (k : ℕ) → k < l.node → IsCandidate (simulation_case l.delayed.graph.now log l.delayed.delays.now limit) l.trace k (candidate_at l.next.items k);
}
