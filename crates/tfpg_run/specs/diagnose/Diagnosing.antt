-- What `diagnose` does: it reads a graph, and writes the report of the input line by line.
use Rattle.std.specs.Prelude.{◌⊎◌, ℕ, List, []}
use Rattle.tfpg_graph.specs.Graph.{Tfpg}
use Rattle.tfpg_graph.specs.Text.{Spells}
use Rattle.tfpg_base.specs.declared.terms.Terms.{Terms}
use Rattle.tfpg_run.specs.declared.end.End.{End}
use Rattle.tfpg_run.specs.EndsOf.{EndsBy, end_of_stream_fault}
use Rattle.tfpg_run.specs.Fetch.{LacksFiles, WorksByGraph}
use Rattle.tfpg_run.specs.World.{World, watched_of}
use Rattle.tfpg_run.specs.TooMany.{EndsUnlessTooMany}
use Rattle.tfpg_diagnose.specs.Diagnosing.{Diagnoses}

-- How a diagnosis of a graph ends: it has too many hypotheses; or it has not, and was diagnosed.
abbrev pub DiagnosisEnds : Terms → World → World → Tfpg → End → Type 0
DiagnosisEnds terms before now graph =
    EndsUnlessTooMany graph terms before now (EndsBy (Diagnoses graph terms (watched_of before) (watched_of now)) end_of_stream_fault)

-- There is no graph of the file of that name; or its diagnosis ended so.
abbrev pub DiagnoseEnds : Terms → List ℕ → World → World → End → Type 0
DiagnoseEnds terms name before now end =
    LacksFiles name [] before now end ⊎ WorksByGraph Spells name (DiagnosisEnds terms before now) before now end
