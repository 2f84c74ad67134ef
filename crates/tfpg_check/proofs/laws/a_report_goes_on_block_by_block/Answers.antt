use Rattle.std.proofs.Common.{refl}
use Rattle.tfpg_check.proofs.lemmas.Progressing.{progress_of-push}
use Rattle.tfpg_check.proofs.laws.a_report_goes_on_block_by_block.Goals as goal

pub returns : goal.returns
returns c = record { start = λ graph. refl; step = progress_of-push }
