use Rattle.std.proofs.Common.{◌+◌, ap}
use Rattle.tfpg_base.proofs.lemmas.Appended.{Appends-err_after}
use Rattle.tfpg_sim.proofs.lemmas.drawn.GraphTexts.{failures_next}
use Rattle.tfpg_sim.proofs.generating.graph_text.append_failures.Goals as goal

pub returns-in_err-append_node_by_number : goal.returns-in_err-append_node_by_number
returns-in_err-append_node_by_number c = Appends-err_after _ _ _ _ _ _ c.from_residual.ensures.0 c.loop-index.invariant c.in_err-append_node_by_number.ensures

pub loop-index-preserved : goal.loop-index-preserved
loop-index-preserved c =
    failures_next c.loop-index.index (c.from-rarity.result + 1) c.args.into.now.items c.loop-index.into.items c.append_node_by_number.new.into.items
    (ap (λ n. n + 1) c.from-rarity.ensures) c.loop-index.invariant c.in_ok-append_node_by_number.ensures
