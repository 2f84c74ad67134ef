use Rattle.tfpg_embed.proofs.lemmas.NamesOfGraph.{found_has, has_found}
use Rattle.tfpg_embed.proofs.laws.names_and_indexes_lead_to_each_other.Goals as goal

pub returns : goal.returns
returns c = record {
  found = λ graph kind index name valid is. has_found graph index name kind valid (λ node at. c.a_node_is_found_by_its_name.ensures.found graph node name valid at) is;
  named = λ graph kind index name is. found_has graph index name kind (λ node at. c.a_node_is_found_by_its_name.ensures.named graph node name at) is;
}
