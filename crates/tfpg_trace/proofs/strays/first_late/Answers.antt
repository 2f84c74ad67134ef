use Rattle.std.proofs.Common.{◌∙◌, sym}
use Rattle.tfpg_trace.proofs.lemmas.NoStrays.{none_late}
use Rattle.tfpg_trace.proofs.strays.first_late.Goals as goal

pub returns-then-all_upto : goal.returns-then-all_upto
returns-then-all_upto c = λ node time within late.
    none_late c.args.log.now c.args.trace.now c.now.result c.as_slice.result.now node time c.now.ensures c.as_slice.ensures
    (sym c.all_upto.ensures ∙ c.if-all_upto.true) late
