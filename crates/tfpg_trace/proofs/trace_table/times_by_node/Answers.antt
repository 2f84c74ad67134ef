use Rattle.std.proofs.Common.{ℕ, Option, Some, None, get_or, ◌≡◌, ◌<◌, ◌∙◌, slice_get, arith}
use Rattle.std.proofs.lemmas.List.{length-replicate, length-set}
use Rattle.std.proofs.lemmas.Option.{slice_get-get_or}
use Rattle.tfpg_base.specs.declared.activation.Activation.{Activation}
use Rattle.tfpg_base.proofs.lemmas.lists.Elements.{All-at}
use Rattle.tfpg_trace.proofs.lemmas.TimesFilled.{nothing_filled, filled_more, all_filled}
use Rattle.tfpg_trace.proofs.trace_table.times_by_node.Goals as goal

pub loop-activation-init : goal.loop-activation-init
loop-activation-init c = record { filled = nothing_filled 512 c.args.trace.now; room = length-replicate {A = Option ℕ} 512 None }

pub loop-activation-preserved : goal.loop-activation-preserved
loop-activation-preserved c =
    let activation : Activation = get_or c.args.trace.now c.loop-activation.activation-index (record { node = 0; time = 0 }) in
    let at : slice_get c.args.trace.now c.loop-activation.activation-index ≡ Some activation =
    slice_get-get_or c.args.trace.now c.loop-activation.activation-index (record { node = 0; time = 0 }) c.loop-activation-test.true in
    let below =
    All-at (λ (a : Activation). a.node < 512) c.args.trace.now c.loop-activation.activation-index activation c.requires.nodes at in
    record {
      filled =
          filled_more c.loop-activation.by_node c.args.trace.now c.loop-activation.activation-index activation c.requires.rising at
          (omega (arith, below, c.loop-activation.invariant.room)) c.loop-activation.invariant.filled;
      room = length-set c.loop-activation.by_node activation.node (Some activation.time) ∙ c.loop-activation.invariant.room;
    }

pub returns : goal.returns
returns c =
    all_filled c.loop-activation.by_node c.args.trace.now c.loop-activation.activation-index c.loop-activation-test.false c.loop-activation.invariant.filled
