-- What is written of a valid graph spells it.
use Rattle.std.proofs.Common.{◌≡◌, cond, Ok, Err, ap, ◌∙◌, arith}
use Rattle.std.specs.Option.{option_and_then}
use Rattle.tfpg_graph.specs.declared.cause.GraphCause.TheVariants.{BadName}
use Rattle.tfpg_graph.specs.Graph.{Tfpg}
use Rattle.tfpg_graph.specs.Valid.{IsValid}
use Rattle.tfpg_json.specs.GraphData.{graph_data, graph_json}
use Rattle.tfpg_json.specs.GraphSaid.{graph_in}
use Rattle.tfpg_json.specs.GraphText.{stands_for, text_or_fault, text_said, whole_fault, SpellsAsJson}
use Rattle.tfpg_json.proofs.lemmas.read_back.WrittenData.{data_in-written}
use Rattle.tfpg_json.proofs.lemmas.read_back.WrittenGraphs.{graph_written}
use Rattle.tfpg_json.proofs.lemmas.read_back.SaidAgain.{said_of, graph_again, said_named}
use Rattle.tfpg_json.proofs.lemmas.read_back.SpelledAgain.{Spells-said}

module _ (graph : Tfpg) (valid : IsValid graph) where
  -- the line stands for the lines of the graph
  stands : stands_for (graph_json graph) ≡ Ok (text_said (said_of graph))
  stands =
      ap (λ found. text_or_fault (option_and_then graph_in found)) (data_in-written (graph_data graph) 4 (graph_written graph valid) (omega arith))
      ∙ ap text_or_fault (graph_again graph)
      ∙ ap (λ named. cond named (Ok (text_said (said_of graph))) (Err (whole_fault BadName))) (said_named graph valid)

  -- and so spells it
  pub spells_again : SpellsAsJson (graph_json graph) graph
  spells_again = (text_said (said_of graph), stands, Spells-said graph valid)
