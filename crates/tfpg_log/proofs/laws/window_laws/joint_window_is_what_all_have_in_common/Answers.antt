use Rattle.tfpg_log.proofs.lemmas.instants.JointWindows.{joint_there, inside, throughout, of_each, begins, ends}
use Rattle.tfpg_log.proofs.laws.window_laws.joint_window_is_what_all_have_in_common.Goals as goal

pub returns : goal.returns
returns c = record {
  window = joint_there;
  inside = inside;
  throughout = throughout;
  of_each = λ graph log node number horizon joint edge e member. of_each graph log node number horizon joint e edge member;
  begins = begins;
  ends = ends;
}
