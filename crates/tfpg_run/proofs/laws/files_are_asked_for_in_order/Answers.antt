use Rattle.tfpg_run.proofs.lemmas.AskedInOrder.{asked_in_order}
use Rattle.tfpg_run.proofs.laws.files_are_asked_for_in_order.Goals as goal

pub returns : goal.returns
returns c = asked_in_order
