-- How many counted calls a run of `diagnose` or `fleet` makes at most: the sum of the limits of its rounds.
use Rattle.std.specs.Prelude.{ℕ, List}
use Rattle.tfpg_graph.specs.Graph.{Tfpg}
use Rattle.tfpg_words.specs.Meaning.{Meaning, Diagnose, Fleet}
use Rattle.tfpg_run.specs.Fetch.{GivesGraph}
use Rattle.tfpg_streams.specs.Outputs.{WorksToEnd}
use Rattle.tfpg_run.specs.World.{World, streams_of}
use Rattle.tfpg_run.specs.fleet.FleetOutput.{fleet_problem}
use Rattle.tfpg_run.specs.fleet.FleetWork.{IsFleetOutputWithin}
use Rattle.tfpg_diagnose.specs.Work.{IsReportWithin}

-- The file of this name spells a graph. By it the input was worked on to its end, and this holds of the graph, of the lines of the input and
-- of what was written.
pub record WorksByLines (Holds : Tfpg → List (List ℕ) → List ℕ → Type 0) (name : List ℕ) (before now : World) : Type 0 where
  pub graph : Tfpg
  pub gives : GivesGraph before.shelf name graph
  pub works : WorksToEnd (Holds graph) (streams_of before) (streams_of now)

-- What a run that is done took in counted calls, by what its words mean: a diagnosis, of one system or of many vehicles, keeps within the
-- limits of its rounds. Nothing is said of the other commands.
abbrev pub RunsWithin : Meaning → World → World → ℕ → ℕ → Type 0
RunsWithin (Diagnose terms name) before now start end = WorksByLines (λ graph. IsReportWithin graph terms start end) name before now
RunsWithin (Fleet terms name names) before now start end =
    WorksByLines (λ graph. IsFleetOutputWithin (fleet_problem graph terms names) start end) name before now
RunsWithin meant before now start end = Unit {0}
