use Rattle.tfpg_clause.proofs.lemmas.constraints.CycleNotNegative.{not_negative}
use Rattle.tfpg_clause.proofs.laws.a_cycle_that_is_met_is_not_negative.Goals as goal

pub returns : goal.returns
returns c = not_negative
