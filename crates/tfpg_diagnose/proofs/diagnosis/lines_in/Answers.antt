use Rattle.std.proofs.Common.{rules, tests, arith, ◌==◌, ◌∙◌, sym, ap, map}
use Rattle.std.proofs.lemmas.Iterator.Splits.{YieldsList-from_slice_split}
use Rattle.std.proofs.lemmas.Iterator.Consumers.{YieldsList-end}
use Rattle.tfpg_diagnose.proofs.diagnosis.lines_in.Goals as goal

pub returns : goal.returns
returns c =
    let all = YieldsList-from_slice_split _ (λ byte. byte == 10) c.without_last_line_end.result.now (search rules) (search rules) (search rules) (λ x b q k. search (rules, tests)) in
    let end = YieldsList-end all c.loop-line.yielded _ c.loop-line.yielded_by _ _ c.in-None.is c.next.ensures.steps in
    ap (map (λ line. line.now)) c.loop-line.invariant ∙ end.0 ∙ sym (c.without_last_line_end.ensures.lines (grind (arith, c.is_empty.ensures, c.if-is_empty.false)))
