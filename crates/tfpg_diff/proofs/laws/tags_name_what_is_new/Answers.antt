-- From the bounds of each variable.
use Rattle.tfpg_diff.proofs.lemmas.Naming.{AreDemandsNamed-new}
use Rattle.tfpg_diff.proofs.laws.tags_name_what_is_new.Goals as goal

pub returns : goal.returns
returns c = AreDemandsNamed-new
