use Rattle.tfpg_log.proofs.lemmas.instants.SpanRuns.{span_found, has_span}
use Rattle.tfpg_log.proofs.laws.spans_are_runs_of_one_mode.Goals as goal

pub returns : goal.returns
returns c = record {
  run = span_found;
  everywhere = has_span;
}
