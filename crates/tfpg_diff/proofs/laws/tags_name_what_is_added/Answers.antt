-- Each kind of change.
use Rattle.tfpg_diff.proofs.lemmas.Naming.{AreDemandsNamed-floor, AreDemandsNamed-ceiling, AreDemandsNamed-demand_of_pick, AreDemandsNamed-popped}
use Rattle.tfpg_diff.proofs.laws.tags_name_what_is_added.Goals as goal

pub returns : goal.returns
returns c = record {
  floor = AreDemandsNamed-floor;
  ceiling = AreDemandsNamed-ceiling;
  pick = AreDemandsNamed-demand_of_pick;
  popped = AreDemandsNamed-popped;
}
