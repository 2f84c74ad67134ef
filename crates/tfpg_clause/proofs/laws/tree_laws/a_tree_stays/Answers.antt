use Rattle.tfpg_clause.proofs.lemmas.trees.TreesStay.{leaf_stays, path_stays, partial_stays, refutation_stays, stated_stays}
use Rattle.tfpg_clause.proofs.laws.tree_laws.a_tree_stays.Goals as goal

pub returns : goal.returns
returns c = record {
  leaf = λ case later steps place ordered goes_on. leaf_stays case later ordered goes_on steps place;
  path = λ case later steps path ordered goes_on. path_stays case later ordered goes_on steps path;
  partial = λ case later steps ordered goes_on. partial_stays case later ordered goes_on steps;
  refutation = λ case later steps ordered goes_on. refutation_stays case later ordered goes_on steps;
  stated = λ case later path reason constraint ordered goes_on. stated_stays case later ordered goes_on path reason constraint;
}
