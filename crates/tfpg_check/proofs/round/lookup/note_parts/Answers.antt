use Rattle.std.proofs.Common.{◌∙◌, get_or, arith}
use Rattle.std.proofs.lemmas.Option.{slice_get-get_or}
use Rattle.tfpg_check.proofs.lemmas.judging.NotedParts.{noted_more}
use Rattle.tfpg_check.proofs.round.lookup.note_parts.Goals as goal

pub loop-index-preserved : goal.loop-index-preserved
loop-index-preserved c = λ number within.
    let part = get_or c.args.parts.now c.loop-index.index c.index-parts-index.result in
    c.note.ensures number (omega (arith, within, c.loop-index.auto.indexes))
    ∙ noted_more c.args.parts.now c.loop-index.index part c.loop-index-test.true (slice_get-get_or c.args.parts.now _ c.index-parts-index.result c.loop-index-test.true)
    number _ (c.loop-index.invariant number within)
