use Rattle.tfpg_search.proofs.lemmas.solutions.Unsettled.{unsettled_there}
use Rattle.tfpg_search.proofs.laws.a_tree_is_unsettled_where_its_latest_solution_violates.Goals as goal

pub returns : goal.returns
returns c = unsettled_there
