use Rattle.tfpg_graph.proofs.lemmas.reading.faults.NoFault.{Spells-no_fault}
use Rattle.tfpg_graph.proofs.lemmas.reading.faults.OneFault.{IsFirstFault-one}
use Rattle.tfpg_graph.proofs.laws.a_text_has_at_most_one_first_fault.Goals as goal

pub returns : goal.returns
returns c = record { one = IsFirstFault-one; none = Spells-no_fault }
