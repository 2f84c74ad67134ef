use Rattle.tfpg_fleet.proofs.lemmas.FleetTells.{own_refusal, own_round}
use Rattle.tfpg_fleet.proofs.laws.a_vehicle_goes_by_its_own_lines.Goals as goal

pub returns : goal.returns
returns c = record {
  round = own_round c.a_log_of_lines_is_of_its_graph.ensures.grows;
  refusal = own_refusal c.a_log_of_lines_is_of_its_graph.ensures.grows;
}
