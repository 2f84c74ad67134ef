use Rattle.tfpg_clause.proofs.lemmas.trees.TreeFronts.{partial_front, refutation_front}
use Rattle.tfpg_clause.proofs.laws.tree_laws.the_front_of_a_tree_is_a_partial_tree.Goals as goal

pub returns : goal.returns
returns c = record { partial = partial_front; refutation = refutation_front }
