-- What `ask` does: it diagnoses the lines of a file, and writes which questions would tell most after them.
use Rattle.std.specs.Prelude.{ℕ, List}
use Rattle.tfpg_base.specs.declared.terms.Terms.{Terms}
use Rattle.tfpg_graph.specs.Graph.{Tfpg}
use Rattle.tfpg_run.specs.declared.end.End.{End}
use Rattle.tfpg_run.specs.Fetch.{EndsByFiles}
use Rattle.tfpg_run.specs.TooMany.{TextEndsUnlessTooMany}
use Rattle.tfpg_run.specs.World.{World}
use Rattle.tfpg_answers.specs.Questions.{HasQuestions}

-- There is no graph or no log of the files of those names; or there are too many hypotheses; or there are not, and the questions were written.
abbrev pub AskEnds : Terms → List ℕ → List ℕ → World → World → End → Type 0
AskEnds terms graph_name log_name before now end =
    EndsByFiles graph_name log_name
    (λ graph log_text. TextEndsUnlessTooMany (HasQuestions terms graph log_text) graph terms before now) before now end
