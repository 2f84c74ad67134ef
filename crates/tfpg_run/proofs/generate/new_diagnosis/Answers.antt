use Rattle.std.proofs.Common.{Err, ap, ◌∙◌}
use Rattle.tfpg_run.proofs.lemmas.generate.FewHypotheses.{few_hypotheses}
use Rattle.tfpg_run.proofs.generate.new_diagnosis.Goals as goal

pub unreachable-requires : goal.unreachable-requires
unreachable-requires c =
    let count = c.in-Err-TooMany.field-0-0 in
    let many = (c.new.ensures.too_many count).0 (c.in-Err-TooMany.is ∙ ap Err c.in-Err-TooMany.field-0-is) in
    few_hypotheses c.args.graph count c.requires many.0 many.1
