use Rattle.tfpg_hyp.proofs.lemmas.Fractions.{before-transitive}
use Rattle.tfpg_hyp.proofs.laws.the_ranking_order_is_total.Goals as goal

pub returns-clause-transitive : goal.returns-clause-transitive
returns-clause-transitive c = before-transitive
