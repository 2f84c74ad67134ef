use Rattle.tfpg_log.proofs.lemmas.instants.WindowInstants.{window_there, inside, throughout, begins}
use Rattle.tfpg_log.proofs.laws.window_laws.an_active_edge_has_one_window.Goals as goal

pub returns : goal.returns
returns c = record {
  window = window_there;
  inside = inside;
  throughout = throughout;
  begins = begins;
}
