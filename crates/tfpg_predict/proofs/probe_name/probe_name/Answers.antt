use Rattle.std.proofs.Common.{◌≡◌, ◌+◌, ◌-◌, ◌<◌, true, ap, sym, ◌∙◌, arith}
use Rattle.std.specs.Prelude.{is_some}
use Rattle.tfpg_graph.specs.Graph.{node_named}
use Rattle.tfpg_graph.specs.declared.limits.TheConstants.{MAX_NODES}
use Rattle.tfpg_predict.proofs.lemmas.ProbeNames.{taken_more, taken_within}
use Rattle.tfpg_predict.proofs.probe_name.probe_name.Goals as goal

pub overflow_add-number : goal.overflow_add-number
overflow_add-number c =
    let found : is_some (node_named c.args.graph.now c.deref.result.now) ≡ true = ap is_some (sym c.find.ensures) ∙ sym c.is_some.ensures ∙ c.loop-number-test.true in
    let few = c.is_always_valid.ensures.few in
    let fits = c.loop-number.auto.number-fits in
    let within =
    taken_within c.args.graph.now c.loop-number.number few (omega (arith, fits))
    (taken_more c.args.graph.now c.loop-number.number c.deref.result.now (c.deref.ensures.value ∙ c.loop-number.invariant.named) c.loop-number.invariant.taken found) in
    omega (arith, within, few)

pub loop-number-smaller : goal.loop-number-smaller
loop-number-smaller c =
    let found : is_some (node_named c.args.graph.now c.deref.result.now) ≡ true = ap is_some (sym c.find.ensures) ∙ sym c.is_some.ensures ∙ c.loop-number-test.true in
    let few = c.is_always_valid.ensures.few in
    let fits = c.loop-number.auto.number-fits in
    let within =
    taken_within c.args.graph.now c.loop-number.number few (omega (arith, fits))
    (taken_more c.args.graph.now c.loop-number.number c.deref.result.now (c.deref.ensures.value ∙ c.loop-number.invariant.named) c.loop-number.invariant.taken found) in
    let less : MAX_NODES + 1 - (c.loop-number.number + 1) < MAX_NODES + 1 - c.loop-number.number = omega (arith, within, few) in less
