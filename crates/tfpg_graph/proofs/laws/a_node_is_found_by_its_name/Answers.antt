use Rattle.tfpg_graph.proofs.lemmas.declaring.Named.{named_found}
use Rattle.tfpg_graph.proofs.lemmas.reading.graphs.FoundNames.{is_name-name_at, node_named-name_at}
use Rattle.tfpg_graph.proofs.laws.a_node_is_found_by_its_name.Goals as goal

pub returns : goal.returns
returns c = record { form = is_name-name_at; found = node_named-name_at; named = λ graph node name found. (named_found graph name node found).1 }
