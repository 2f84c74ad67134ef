use Rattle.std.proofs.Common.{◌≡◌, ℕ, ◌≤◌, All, take}
use Rattle.tfpg_base.specs.Trace.{time_of}
use Rattle.tfpg_graph.specs.Graph.{Tfpg}
use Rattle.tfpg_sim.specs.Script.{time_of_entry}
use Rattle.tfpg_sim.specs.inside.Entries.{IsScript}
use Rattle.tfpg_sim.specs.Simulation.{start_of}
use Rattle.tfpg_sim.specs.inside.Settling.{IsFailureStart}
use Rattle.tfpg_sim.proofs.trace.started.Given as goal

-- the failure modes that the lines so far start
abbrev pub invariant-loop-entry : goal.invariant-loop-entry
invariant-loop-entry l = record {
  times : (graph : Tfpg) → IsScript graph l.entries → (node : ℕ) → time_of l.trace node ≡ start_of (take l.entry-index l.entries) node;
  own : (graph : Tfpg) (stop : ℕ) → IsScript graph l.entries → All (λ entry. time_of_entry entry ≤ stop) l.entries → All (IsFailureStart graph stop) l.trace;
}
