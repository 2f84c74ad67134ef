use Rattle.tfpg_log.proofs.lemmas.logs_of_lines.AcceptedLines.{log_there, lines_accepted}
use Rattle.tfpg_log.proofs.laws.the_lines_of_events_make_their_log.Goals as goal

pub returns : goal.returns
returns c = record {
  log = λ graph events valid next. log_there graph valid events next;
  each = λ graph events valid next. lines_accepted graph valid events next;
}
