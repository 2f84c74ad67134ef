-- What a simulation gives.
use Rattle.std.specs.Prelude.{◌≡◌, ℕ, List}
use Rattle.std.specs.List.{flat_map}
use Rattle.tfpg_base.specs.Lines.{lines_of}
use Rattle.tfpg_graph.specs.Graph.{Tfpg}
use Rattle.tfpg_log.specs.EventLines.{event_line}
use Rattle.tfpg_sim.specs.declared.entry.Entry.{Entry}
use Rattle.tfpg_sim.specs.declared.simulated.Simulated.{Simulated}
use Rattle.tfpg_sim.specs.Script.{SpellsScript, time_so_far}
use Rattle.tfpg_sim.specs.Draws.{delays, latenesses}
use Rattle.tfpg_sim.specs.Simulation.{IsSimulated}
use Rattle.tfpg_sim.specs.SimulatedLog.{set_of, log_events}

-- The script is right, and set, trace and log are those of its lines, with the delays and latenesses of the number.
pub record IsSimulationOf (graph : Tfpg) (script : List ℕ) (number : ℕ) (simulated : Simulated) : Type 0 where
  pub entries : List Entry
  pub right : SpellsScript graph (lines_of script) entries
  pub set : simulated.set ≡ set_of graph entries
  pub trace : IsSimulated graph entries (delays graph number) simulated.trace
  pub log : simulated.log
      ≡ flat_map (event_line graph) (log_events entries simulated.trace (latenesses graph number) (time_so_far entries))
