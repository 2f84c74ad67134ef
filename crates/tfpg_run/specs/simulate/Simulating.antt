-- What `simulate` does: it writes the log that a script makes, or the map of what happened.
use Rattle.std.specs.Prelude.{◌≡◌, ◌⊎◌, ℕ, List, Bool, IsTrue, if◌then◌else◌}
use Rattle.tfpg_base.specs.Hypothesis.{believing}
use Rattle.tfpg_base.specs.Lines.{lines_of}
use Rattle.tfpg_graph.specs.Graph.{Tfpg}
use Rattle.tfpg_sim.specs.declared.simulated.Simulated.{Simulated}
use Rattle.tfpg_sim.specs.Script.{IsScriptFault}
use Rattle.tfpg_sim.specs.Simulated.{IsSimulationOf}
use Rattle.tfpg_run.specs.declared.end.End.{End}
use Rattle.tfpg_run.specs.declared.end.End.TheVariants as ends
use Rattle.tfpg_check.specs.declared.cause.CheckCause.TheVariants.{BadScript}
use Rattle.tfpg_run.specs.EndsOf.{EndsBy, StopsBy, end_of_output_fault}
use Rattle.tfpg_run.specs.Fetch.{EndsByFiles}
use Rattle.tfpg_map.specs.Spelling.{SpellsMap}
use Rattle.tfpg_map.specs.MapText.{map_text}
use Rattle.tfpg_streams.specs.Outputs.{TextEnds}
use Rattle.tfpg_run.specs.World.{World, watched_of}

-- The script is right, and this is the text of its simulation on the graph with the draws of the number: where the trace is asked for, the map
-- of its set and its trace, which spells both; else its log. That each line of the log is accepted, and the trace explains it from the set, is
-- a law of `tfpg_sim`.
pub record HasSimulation (draw : ℕ) (trace : Bool) (graph : Tfpg) (script text : List ℕ) : Type 0 where
  pub simulated : Simulated
  pub is : IsSimulationOf graph script draw simulated
  pub text_is : text ≡ (if trace then map_text graph (believing simulated.set) simulated.trace else simulated.log)
  pub spells : IsTrue trace → SpellsMap graph (lines_of text) (believing simulated.set) simulated.trace

-- How a simulation of the script on the graph ends, whose text is to be such: the script is at fault, first in the line that the end says, and
-- all but the shelf is untouched; or the text was written.
abbrev pub SimulationEnds : (Tfpg → List ℕ → List ℕ → Type 0) → World → World → Tfpg → List ℕ → End → Type 0
SimulationEnds IsRight before now graph script end =
    StopsBy (IsScriptFault graph (lines_of script)) (λ line. ends.NotAccepted line BadScript) (watched_of before) (watched_of now) end
    ⊎ EndsBy (TextEnds (IsRight graph script) before.output now.output) end_of_output_fault end

-- There is no graph or no script of the files of those names; or the one was simulated on the other.
abbrev pub SimulateEnds : (Tfpg → List ℕ → List ℕ → Type 0) → List ℕ → List ℕ → World → World → End → Type 0
SimulateEnds IsRight graph_name script_name before now end =
    EndsByFiles graph_name script_name (SimulationEnds IsRight before now) before now end
