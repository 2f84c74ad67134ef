use Rattle.tfpg_clause.proofs.lemmas.first_violated.FirstOfAll.{first_at_index, kind_at_index, met_at_indexes}
use Rattle.tfpg_clause.proofs.first_clause.first_violated.Goals as goal

pub returns-in-Some : goal.returns-in-Some
returns-in-Some c =
    first_at_index c.args.graph.now c.args.log.now c.args.times.now c.loop-kind.kind-index c.in-Some.name c.loop-kind-test.true c.loop-kind.invariant c.in-Some.ensures

pub loop-kind-preserved : goal.loop-kind-preserved
loop-kind-preserved c =
    kind_at_index c.args.graph.now c.args.log.now c.args.times.now c.loop-kind.kind-index c.loop-kind-test.true c.loop-kind.invariant c.in_default.ensures

pub returns : goal.returns
returns c =
    met_at_indexes c.args.graph.now c.args.log.now c.args.times.now c.loop-kind.kind-index c.loop-kind-test.false c.loop-kind.invariant
