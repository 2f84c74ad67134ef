-- The constraints of the cycle.
use Rattle.tfpg_diff.proofs.lemmas.Naming.{AreNamesOfNegativeCycle-named}
use Rattle.tfpg_diff.proofs.laws.tags_name_the_cycle.Goals as goal

pub returns : goal.returns
returns c = AreNamesOfNegativeCycle-named
