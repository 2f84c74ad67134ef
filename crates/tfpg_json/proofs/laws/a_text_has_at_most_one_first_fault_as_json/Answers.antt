use Rattle.tfpg_json.proofs.lemmas.StoodFor.{at_most_one_fault, no_fault}
use Rattle.tfpg_json.proofs.laws.a_text_has_at_most_one_first_fault_as_json.Goals as goal

pub returns-clause-one : goal.returns-clause-one
returns-clause-one c = at_most_one_fault c.a_text_has_at_most_one_first_fault.ensures.one

pub returns-clause-none : goal.returns-clause-none
returns-clause-none c = no_fault c.a_text_has_at_most_one_first_fault.ensures.none
