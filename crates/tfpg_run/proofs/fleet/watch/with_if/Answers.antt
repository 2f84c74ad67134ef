use Rattle.tfpg_run.proofs.lemmas.fleet.Counts.{with_else, with_then}
use Rattle.tfpg_run.proofs.fleet.watch.with_if.Goals as goal

pub returns-then-holds : goal.returns-then-holds
returns-then-holds c = with_then c.args.set c.with.result c.args.position c.args.holds c.if-holds.true c.with.ensures.members

pub returns : goal.returns
returns c = with_else c.args.set c.args.position c.args.holds c.if-holds.false
