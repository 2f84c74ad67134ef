use Rattle.tfpg_clause.proofs.lemmas.constraints.BoundsMet.{met_at_least, met_at_most, met_at_least_after, met_at_most_after, says_at_least, says_at_most, says_at_least_after, says_at_most_after}
use Rattle.tfpg_clause.proofs.laws.bounds_hold_of_the_times_of_nodes.Goals as goal

pub returns : goal.returns
returns c = record {
  lower = λ times node bound. (says_at_least times node bound, met_at_least times node bound);
  upper = λ times node bound. (says_at_most times node bound, met_at_most times node bound);
  at_least_after = λ times node source bound. (says_at_least_after times node source bound, met_at_least_after times node source bound);
  at_most_after = λ times node source bound. (says_at_most_after times node source bound, met_at_most_after times node source bound);
}
