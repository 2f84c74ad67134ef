-- What `predict` does: it reads a graph and a log, diagnoses the log, and writes when at the earliest a node becomes active.
use Rattle.std.specs.Prelude.{◌≡◌, ◌⊎◌, ℕ, List, Ok, Err}
use Rattle.tfpg_base.specs.Lines.{lines_of}
use Rattle.tfpg_graph.specs.Graph.{Tfpg}
use Rattle.tfpg_run.specs.declared.end.End.{End}
use Rattle.tfpg_run.specs.EndsOf.{StopsBy, end_of_probe_fault}
use Rattle.tfpg_run.specs.Fetch.{EndsByFiles}
use Rattle.tfpg_run.specs.World.{World, watched_of}
use Rattle.tfpg_run.specs.TooMany.{TextEndsUnlessTooMany}
use Rattle.tfpg_answers.specs.Forecasts.{Prediction, HasForecasts}
use Rattle.tfpg_answers.specs.Probing.{probed_node}

-- How a prediction by a graph and the text of a log ends: the node takes no probe, and all but the shelf is untouched; or it takes one, and
-- there are too many hypotheses, or its forecasts were written.
abbrev pub PredictionEnds : Prediction → World → World → Tfpg → List ℕ → End → Type 0
PredictionEnds asked before now graph log_text end =
    StopsBy (λ fault. probed_node graph asked.node ≡ Err fault) end_of_probe_fault (watched_of before) (watched_of now) end
    ⊎ ((node : ℕ) × (probed_node graph asked.node ≡ Ok node)
    × TextEndsUnlessTooMany (HasForecasts graph asked node (lines_of log_text)) graph asked.terms before now end)

-- There is no graph or no log of the files of those names; or a prediction was made by them.
abbrev pub PredictEnds : Prediction → List ℕ → List ℕ → World → World → End → Type 0
PredictEnds asked graph_name log_name before now end =
    EndsByFiles graph_name log_name (PredictionEnds asked before now) before now end
