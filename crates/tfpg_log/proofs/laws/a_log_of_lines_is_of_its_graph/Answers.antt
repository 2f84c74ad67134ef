use Rattle.tfpg_log.proofs.lemmas.logs_of_lines.LogsOfLines.{log_of_lines-push, of-log_of_lines, ordered-log_of_lines}
use Rattle.tfpg_log.proofs.laws.a_log_of_lines_is_of_its_graph.Goals as goal

pub returns : goal.returns
returns c = record {
  grows = log_of_lines-push;
  of = of-log_of_lines;
  ordered = ordered-log_of_lines;
}
