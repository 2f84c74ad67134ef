use Rattle.tfpg_clause.proofs.lemmas.logs.StaysAllowed.{clause_stays, fact_stays}
use Rattle.tfpg_clause.proofs.laws.what_is_allowed_stays_allowed.Goals as goal

pub returns : goal.returns
returns c = record {
  clause = λ graph earlier later name clause ordered goes_on. clause_stays graph earlier later ordered goes_on name clause;
  fact = λ case later reason stated ordered goes_on. fact_stays case.graph case.log later ordered goes_on case.reach reason stated;
}
