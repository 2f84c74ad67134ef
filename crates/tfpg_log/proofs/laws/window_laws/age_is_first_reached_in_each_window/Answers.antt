use Rattle.tfpg_log.proofs.lemmas.ages.FirstAges.{in_one, in_all}
use Rattle.tfpg_log.proofs.laws.window_laws.age_is_first_reached_in_each_window.Goals as goal

pub returns : goal.returns
returns c = record {
  in_one = in_one;
  in_all = in_all;
}
