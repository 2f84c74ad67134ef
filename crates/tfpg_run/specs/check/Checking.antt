-- What `check` does: it reads a graph and a log, judges the report of the input by them, and writes how many rounds it accepted.
use Rattle.std.specs.Prelude.{◌≡◌, ◌⊎◌, ℕ, List, [], ◌∷◌, codes, decimal}
use Rattle.tfpg_base.specs.TextLine.{text_line}
use Rattle.tfpg_check.specs.Causes.{DiagnosisProblem}
use Rattle.tfpg_diagnose.specs.JudgedReports.{AcceptsReport, LacksReport, problem_of}
use Rattle.tfpg_run.specs.declared.end.End.{End}
use Rattle.tfpg_run.specs.EndsOf.{EndsBy, StopsBy, end_of_check_fault, end_of_output_fault}
use Rattle.tfpg_run.specs.Fetch.{EndsByFiles}
use Rattle.tfpg_streams.specs.Outputs.{TextEnds}
use Rattle.tfpg_streams.specs.Streams.{Streams}
use Rattle.tfpg_run.specs.World.{World, streams_of}

-- How judging the report of the input ends: it is not accepted, and nothing is written; or its lines are those of a report, and how many
-- rounds it has was written.
abbrev pub CheckingEnds : DiagnosisProblem → Streams → Streams → End → Type 0
CheckingEnds problem before now end =
    StopsBy (LacksReport problem before.input now.input) end_of_check_fault before.output now.output end
    ⊎ ((rounds : ℕ) × AcceptsReport problem before.input now.input rounds
    × EndsBy (TextEnds (λ text. text ≡ text_line (codes "accepted" ∷ decimal rounds ∷ [])) before.output now.output)
    end_of_output_fault end)

-- There is no graph or no log of the files of those names; or a report was judged by them.
abbrev pub CheckEnds : List ℕ → List ℕ → World → World → End → Type 0
CheckEnds graph_name log_name before now end =
    EndsByFiles graph_name log_name (λ graph text. CheckingEnds (problem_of graph text) (streams_of before) (streams_of now))
    before now end
