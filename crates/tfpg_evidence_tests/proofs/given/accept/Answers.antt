use Rattle.std.proofs.Common.{ap, ◌∙◌}
use Rattle.tfpg_log.specs.LogOfLines.{log_after_reply}
use Rattle.tfpg_evidence_tests.proofs.given.accept.Goals as goal

pub offer-requires : goal.offer-requires
offer-requires c = c.requires

pub returns-in-Accepted-clause-longer : goal.returns-in-Accepted-clause-longer
returns-in-Accepted-clause-longer c = (c.in-Accepted.field-0, c.in_ok-offer.ensures.log ∙ ap (log_after_reply c.args.log.now) c.in-Accepted.is)
