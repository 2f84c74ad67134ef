use Rattle.std.proofs.Common.{refl}
use Rattle.tfpg_embed.specs.EventLines.{no_name}
use Rattle.tfpg_embed.proofs.lemmas.NamesOfGraph.{named_by_no_one}
use Rattle.tfpg_embed.proofs.laws.nothing_has_the_word_for_no_name.Goals as goal

pub returns : goal.returns
returns c graph kind valid =
    named_by_no_one graph no_name kind valid refl (λ node at. c.a_node_is_found_by_its_name.ensures.form graph node no_name valid (c.a_node_is_found_by_its_name.ensures.named graph node no_name at))
