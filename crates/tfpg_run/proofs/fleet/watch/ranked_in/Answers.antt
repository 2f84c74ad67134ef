use Rattle.tfpg_run.proofs.lemmas.fleet.Counts.{ranked_all, ranked_more, ranked_none}
use Rattle.tfpg_run.proofs.fleet.watch.ranked_in.Goals as goal

pub loop-position-init : goal.loop-position-init
loop-position-init c = ranked_none c.args.round.now c.empty-ranked.result c.empty-ranked.ensures

pub loop-position-preserved : goal.loop-position-preserved
loop-position-preserved c = ranked_more c.args.round.now c.loop-position.position c.loop-position.ranked c.with_if-ranked.result c.ranks.result c.ranks.ensures c.with_if-ranked.ensures c.loop-position.invariant

pub returns : goal.returns
returns c = ranked_all c.args.round.now c.args.failures c.loop-position.position c.loop-position.ranked c.loop-position-test.false c.loop-position.invariant
