use Rattle.tfpg_log.proofs.lemmas.causes.LargerSets.{larger_explains, larger_fits}
use Rattle.tfpg_log.proofs.laws.larger_sets.a_larger_set_explains_as_well.Goals as goal

pub returns : goal.returns
returns c = record { explains = larger_explains; fits = larger_fits }
