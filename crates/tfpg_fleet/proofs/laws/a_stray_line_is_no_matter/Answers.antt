use Rattle.tfpg_fleet.proofs.lemmas.FleetTells.{represents_stray}
use Rattle.tfpg_fleet.proofs.laws.a_stray_line_is_no_matter.Goals as goal

pub returns : goal.returns
returns c graph terms fleet stream rounds line none = represents_stray fleet line none graph terms stream rounds
