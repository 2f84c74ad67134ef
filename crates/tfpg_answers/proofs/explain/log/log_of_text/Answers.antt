use Rattle.std.proofs.Common.{rules, tests, ◌==◌, ◌∙◌, ap}
use Rattle.std.proofs.lemmas.Iterator.Splits.{YieldsList-from_slice_split}
use Rattle.std.proofs.lemmas.Iterator.Consumers.{YieldsList-end}
use Rattle.tfpg_log.specs.LogOfLines.{log_of_lines}
use Rattle.tfpg_answers.proofs.lemmas.explain.LogTexts.{log_of_parts}
use Rattle.tfpg_answers.proofs.explain.log.log_of_text.Goals as goal

pub returns-clause-log : goal.returns-clause-log
returns-clause-log c =
    let all = YieldsList-from_slice_split _ (λ byte. byte == 10) c.args.text.now (search rules) (search rules) (search rules) (λ x b q k. search (rules, tests)) in
    let end = YieldsList-end all c.loop-line.yielded _ c.loop-line.yielded_by _ _ c.in-None.is c.next.ensures.steps in
    c.loop-line.invariant.log ∙ ap (log_of_lines c.args.graph.now) end.0 ∙ log_of_parts c.args.graph.now c.args.text.now
