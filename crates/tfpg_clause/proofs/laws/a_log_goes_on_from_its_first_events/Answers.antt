use Rattle.tfpg_clause.proofs.lemmas.trees.TreesStay.{first_to_whole}
use Rattle.tfpg_clause.proofs.laws.a_log_goes_on_from_its_first_events.Goals as goal

pub returns : goal.returns
returns c = first_to_whole
