use Rattle.std.proofs.Common.{◌<◌, length, get_or, take, subst, sym}
use Rattle.std.specs.Prelude.{All}
use Rattle.std.proofs.lemmas.List.Elements.{All-push}
use Rattle.std.proofs.lemmas.Option.{slice_get-get_or}
use Rattle.tfpg_base.specs.declared.activation.Activation.{Activation}
use Rattle.tfpg_base.proofs.lemmas.lists.Cuts.{take-next}
use Rattle.tfpg_trace.specs.inside.Strays.{IsOutside}
use Rattle.tfpg_trace.proofs.strays.has_no_outsider.Goals as goal

pub loop-activation-preserved : goal.loop-activation-preserved
loop-activation-preserved c =
    let holds = λ (a : Activation). a.node < length c.args.graph.now.nodes → IsOutside c.args.graph.now c.args.set a.node → ⊥ in
    let xs = c.args.activations.now in
    let index = c.loop-activation.activation-index in
    let here : Activation = get_or c.args.activations.now c.loop-activation.activation-index (record { node = 0; time = 0 }) in
    subst (All holds)
    (sym (take-next xs index here (slice_get-get_or xs index (record { node = 0; time = 0 }) c.loop-activation-test.true)))
    (All-push holds (take index xs) here c.loop-activation.invariant (c.may_be_outside.ensures c.if-may_be_outside.false))
