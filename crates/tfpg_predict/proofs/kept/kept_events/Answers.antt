use Rattle.std.proofs.Common.{◌∙◌, length, ap, arith}
use Rattle.std.proofs.lemmas.List.FromFn.{length-map-range_with_len}
use Rattle.tfpg_predict.specs.inside.KeptEvents.{last_silence}
use Rattle.tfpg_predict.proofs.lemmas.Tables.{kept_turn, kept_done}
use Rattle.tfpg_predict.proofs.kept.kept_events.Goals as goal

pub keep-requires : goal.keep-requires
keep-requires c =
    let few = c.is_always_valid.ensures.few in
    omega (
      arith,
      ap length (c.deref.ensures.value ∙ c.in_ok-last.ensures),
      length-map-range_with_len (last_silence c.args.graph.now c.args.log.now) 0 (length c.args.graph.now.nodes),
      few,
    )

pub loop-index-preserved : goal.loop-index-preserved
loop-index-preserved c =
    kept_turn c.args.graph.now c.args.log.now c.deref.result.now (c.deref.ensures.value ∙ c.in_ok-last.ensures) c.loop-index.index c.event.result c.loop-index.events.items c.keep.new.into.items c.event.ensures
    c.loop-index.invariant c.in_ok-keep.ensures

pub returns : goal.returns
returns c =
    let past = c.loop-index-test.false in
    kept_done c.args.graph.now c.args.log.now c.in_ok-last.last.items c.in_ok-last.ensures c.loop-index.index c.loop-index.events.items (omega (arith, past, c.len-index-end.ensures.len))
    c.loop-index.invariant
