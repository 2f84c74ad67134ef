use Rattle.tfpg_fleet.proofs.lemmas.SaidTo.{belongs_exactly}
use Rattle.tfpg_fleet.proofs.laws.a_line_belongs_by_its_first_word.Goals as goal

pub returns : goal.returns
returns c = belongs_exactly
