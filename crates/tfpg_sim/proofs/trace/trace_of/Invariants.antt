use Rattle.std.proofs.Common.{length}
use Rattle.tfpg_sim.specs.Simulation.{script_log, start_of}
use Rattle.tfpg_sim.specs.inside.Settling.{simulation_case, IsUnderWay, waiting_count}
use Rattle.tfpg_sim.proofs.trace.trace_of.Given as goal

-- the simulation is under way
abbrev pub invariant-loop-node : goal.invariant-loop-node
invariant-loop-node l = IsUnderWay (simulation_case l.graph (script_log l.entries) l.delays l.stop) (start_of l.entries) l.trace l.candidates.items

-- each turn makes one node active
abbrev pub decreases-loop-node : goal.decreases-loop-node
decreases-loop-node l = waiting_count l.trace (length l.graph.nodes)
