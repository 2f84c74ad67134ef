use Rattle.tfpg_clause.proofs.lemmas.trees.LedPaths.{no_partial}
use Rattle.tfpg_clause.proofs.laws.tree_laws.a_refutation_is_finished.Goals as goal

pub returns : goal.returns
returns c = no_partial
