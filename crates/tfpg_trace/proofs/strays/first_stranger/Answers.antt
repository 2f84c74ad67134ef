use Rattle.tfpg_trace.proofs.lemmas.NoStrays.{no_stranger}
use Rattle.tfpg_trace.proofs.strays.first_stranger.Goals as goal

pub returns-then-has_no_outsider : goal.returns-then-has_no_outsider
returns-then-has_no_outsider c = λ node time within stranger.
    no_stranger c.args.graph.now c.args.set c.args.trace.now c.as_slice.result.now node time c.as_slice.ensures
    (c.has_no_outsider.ensures c.if-has_no_outsider.true) within stranger
