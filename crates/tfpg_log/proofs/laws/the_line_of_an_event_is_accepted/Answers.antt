use Rattle.tfpg_log.proofs.lemmas.logs_of_lines.AcceptedEvents.{is_accepted, is_short, is_clean}
use Rattle.tfpg_log.proofs.laws.the_line_of_an_event_is_accepted.Goals as goal

pub returns : goal.returns
returns c = record {
  accepted = λ graph log event valid next. is_accepted graph valid log event next;
  short = λ graph log event valid next. is_short graph valid log event next;
  clean = λ graph log event valid next. is_clean graph valid log event next;
}
