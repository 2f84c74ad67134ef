use Rattle.tfpg_clause.proofs.lemmas.trees.LedPaths.{last_of_refutation, last_of_partial}
use Rattle.tfpg_clause.proofs.laws.tree_laws.the_last_step_of_a_tree_is_right.Goals as goal

pub returns : goal.returns
returns c = record { refutation = last_of_refutation; partial = last_of_partial }
