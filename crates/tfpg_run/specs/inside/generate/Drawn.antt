-- A drawn graph, and the simulation of the script that was drawn with it.
use Rattle.std.specs.Prelude.{◌≡◌, ℕ, ◌≤◌, List}
use Rattle.tfpg_base.specs.declared.limits.TheConstants.{MAX_CASE_SIZE}
use Rattle.tfpg_base.specs.Lines.{lines_of}
use Rattle.tfpg_graph.specs.Graph.{Tfpg}
use Rattle.tfpg_log.specs.Explains.{Explains}
use Rattle.tfpg_log.specs.LogOfLines.{log_of_lines}
use Rattle.tfpg_sim.specs.declared.simulated.Simulated.{Simulated}
use Rattle.tfpg_log.specs.AcceptedLog.{AreAccepted}
use Rattle.tfpg_sim.specs.Generated.{generated_graph, generated_script}
use Rattle.tfpg_sim.specs.Simulated.{IsSimulationOf}

-- The graph is that of the number and the size, and this is the simulation of its script by the number: each line of
-- the log is accepted, and the trace explains the log from the set.
pub record IsDrawn (number size : ℕ) (graph : Tfpg) (simulated : Simulated) : Type 0 where
  pub some : 1 ≤ size
  pub few : size ≤ MAX_CASE_SIZE
  pub graph_is : graph ≡ generated_graph number size
  pub script : List ℕ
  pub script_is : script ≡ generated_script number size
  pub simulation : IsSimulationOf graph script number simulated
  pub accepted : AreAccepted graph (lines_of simulated.log)
  pub explained : Explains graph (log_of_lines graph (lines_of simulated.log)) simulated.set simulated.trace
