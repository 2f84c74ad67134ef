use Rattle.std.proofs.Common.{rules, tests, ◌==◌, ◌∙◌, ap, map}
use Rattle.std.proofs.lemmas.Iterator.Splits.{YieldsList-from_slice_split}
use Rattle.std.proofs.lemmas.Iterator.Consumers.{YieldsList-end}
use Rattle.tfpg_base.proofs.words.parts_at_commas.Goals as goal

pub returns : goal.returns
returns c =
    let all = YieldsList-from_slice_split _ (λ byte. byte == 44) c.args.word.now (search rules) (search rules) (search rules) (λ x b q k. search (rules, tests)) in
    let end = YieldsList-end all c.loop-part.yielded _ c.loop-part.yielded_by _ _ c.in-None.is c.next.ensures.steps in
    ap (map (λ part. part.now)) c.loop-part.invariant ∙ end.0
