use Rattle.tfpg_log.proofs.lemmas.ages.JointAges.{all_at_least, each_its_own}
use Rattle.tfpg_log.proofs.laws.window_laws.ages_at_once_are_the_time_in_the_joint_window.Goals as goal

pub returns : goal.returns
returns c = record {
  all_at_least = all_at_least;
  each_its_own =
      λ graph log trace node number horizon instant age joint edge e from upto. each_its_own graph log trace node number horizon instant age joint e from upto edge;
}
