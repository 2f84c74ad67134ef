use Rattle.tfpg_clause.proofs.lemmas.first_violated.NameOrder.{not_itself, goes_through, one_comes_first}
use Rattle.tfpg_clause.proofs.laws.clauses_of_one_horizon_have_an_order.Goals as goal

pub returns : goal.returns
returns c = record {
  not_itself = not_itself;
  through = goes_through;
  one_first = one_comes_first;
}
