-- What `convert` does: it reads a graph text and writes the graph as JSON, or it reads JSON and writes the graph text.
use Rattle.std.specs.Prelude.{◌≡◌, ◌⊎◌, ℕ, List, [], Bool, true, false}
use Rattle.tfpg_graph.specs.declared.cause.GraphFault.{GraphFault}
use Rattle.tfpg_graph.specs.Faults.{IsFirstFault}
use Rattle.tfpg_graph.specs.Graph.{Tfpg}
use Rattle.tfpg_graph.specs.Text.{Spells, canonical_text}
use Rattle.tfpg_json.specs.GraphData.{graph_json}
use Rattle.tfpg_json.specs.GraphText.{SpellsAsJson, IsJsonFault}
use Rattle.tfpg_run.specs.declared.end.End.{End}
use Rattle.tfpg_run.specs.EndsOf.{EndsBy, end_of_output_fault}
use Rattle.tfpg_run.specs.Fetch.{LacksFilesBy, WorksByGraph}
use Rattle.tfpg_streams.specs.Outputs.{TextEnds}
use Rattle.tfpg_run.specs.World.{World}

-- which text spells which graph: JSON where JSON is read, and else graph texts
abbrev pub SpellsFrom : Bool → List ℕ → Tfpg → Type 0
SpellsFrom true = SpellsAsJson
SpellsFrom false = Spells

-- what the first fault of a text is, where JSON is read or not
abbrev pub IsFaultFrom : Bool → List ℕ → GraphFault → Type 0
IsFaultFrom true = IsJsonFault
IsFaultFrom false = IsFirstFault

-- what is written for a graph: its canonical text where JSON was read, and else its line of JSON
abbrev pub converted_text : Bool → Tfpg → List ℕ
converted_text true graph = canonical_text graph
converted_text false graph = graph_json graph

-- There is no graph of the file of that name; or it was converted.
abbrev pub ConvertEnds : Bool → List ℕ → World → World → End → Type 0
ConvertEnds json name before now end =
    LacksFilesBy (IsFaultFrom json) name [] before now end
    ⊎ WorksByGraph (SpellsFrom json) name
    (λ graph. EndsBy (TextEnds (λ text. text ≡ converted_text json graph) before.output now.output) end_of_output_fault) before now end
