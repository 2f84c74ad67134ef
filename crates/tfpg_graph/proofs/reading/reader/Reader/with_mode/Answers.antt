use Rattle.std.proofs.Common.{sym, ◌∙◌}
use Rattle.tfpg_graph.proofs.lemmas.reading.causes.Judged.{cause_or_value-caused}
use Rattle.tfpg_graph.proofs.reading.reader.Reader.with_mode.Goals as goal

pub returns-in-Some : goal.returns-in-Some
returns-in-Some c = cause_or_value-caused _ _ c.in-Some.cause (sym c.mode_cause.ensures.first ∙ c.in-Some.is)
