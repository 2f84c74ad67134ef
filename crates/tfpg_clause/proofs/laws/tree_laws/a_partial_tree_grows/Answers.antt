use Rattle.tfpg_clause.proofs.lemmas.trees.LeafSteps.{leaf_begins, leaf_moves, leaf_ends}
use Rattle.tfpg_clause.proofs.laws.tree_laws.a_partial_tree_grows.Goals as goal

pub returns : goal.returns
returns c = record { begins = leaf_begins; moves = leaf_moves; closed = leaf_ends }
