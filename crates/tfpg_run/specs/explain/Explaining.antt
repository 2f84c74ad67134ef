-- What `explain` does: it reads a graph, a log, and a map of the input, and writes the verdict on it.
use Rattle.std.specs.Prelude.{◌≡◌, ◌⊎◌, ℕ, List}
use Rattle.tfpg_base.specs.Lines.{lines_of}
use Rattle.tfpg_graph.specs.Graph.{Tfpg}
use Rattle.tfpg_log.specs.Log.{Logbook}
use Rattle.tfpg_log.specs.LogOfLines.{log_of_lines}
use Rattle.tfpg_map.specs.InputMap.{LacksMap, ReadsMap}
use Rattle.tfpg_map.specs.declared.map.Map.{Map}
use Rattle.tfpg_answers.specs.Verdicts.{HasVerdict}
use Rattle.tfpg_run.specs.declared.end.End.{End}
use Rattle.tfpg_run.specs.EndsOf.{EndsBy, StopsBy, end_of_no_map, end_of_output_fault}
use Rattle.tfpg_run.specs.Fetch.{EndsByFiles}
use Rattle.tfpg_streams.specs.Outputs.{TextEnds}
use Rattle.tfpg_streams.specs.Streams.{Streams}
use Rattle.tfpg_run.specs.World.{World, streams_of}

-- How judging the map of the input ends: there is none, and nothing is written; or the lines of the whole input spell one, and the verdict on
-- it was written.
abbrev pub ExplainingEnds : Tfpg → Logbook → Streams → Streams → End → Type 0
ExplainingEnds graph log before now end =
    StopsBy (LacksMap graph before.input now.input) end_of_no_map before.output now.output end
    ⊎ ((map : Map) × ReadsMap graph before.input now.input map
    × EndsBy (TextEnds (HasVerdict graph log map) before.output now.output) end_of_output_fault end)

-- There is no graph or no log of the files of those names; or a map was judged by them.
abbrev pub ExplainEnds : List ℕ → List ℕ → World → World → End → Type 0
ExplainEnds graph_name log_name before now end =
    EndsByFiles graph_name log_name
    (λ graph text. ExplainingEnds graph (log_of_lines graph (lines_of text)) (streams_of before) (streams_of now))
    before now end
