use Rattle.tfpg_log.proofs.lemmas.instants.WindowRuns.{edge_window, edge_window_there, node_window, node_window_there}
use Rattle.tfpg_log.proofs.laws.windows_are_runs_of_spans.Goals as goal

pub returns : goal.returns
returns c = record {
  of_edge = edge_window;
  of_edge_found = edge_window_there;
  of_node = node_window;
  of_node_found = node_window_there;
}
