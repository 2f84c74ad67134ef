use Rattle.tfpg_clause.proofs.lemmas.trees.PresentLeaf.{leaf_there}
use Rattle.tfpg_clause.proofs.lemmas.trees.LedPaths.{one_leaf, place_of_path}
use Rattle.tfpg_clause.proofs.laws.a_partial_tree_has_one_present_leaf.Goals as goal

pub returns : goal.returns
returns c = record { there = leaf_there; only_one = one_leaf; path = place_of_path }
