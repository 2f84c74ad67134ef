use Rattle.tfpg_clause.proofs.first_clause.first_span.Goals as goal

pub returns-in-OrMay : goal.returns-in-OrMay
returns-in-OrMay c = rw c.in-OrMay.is c.or_may_violated.ensures

pub returns-in-AndMay : goal.returns-in-AndMay
returns-in-AndMay c = rw c.in-AndMay.is c.and_may_violated.ensures

pub returns-in-OrMust : goal.returns-in-OrMust
returns-in-OrMust c = rw c.in-OrMust.is c.or_must_violated.ensures

pub returns-in-AndMust : goal.returns-in-AndMust
returns-in-AndMust c = rw c.in-AndMust.is c.and_must_violated.ensures
