use Rattle.tfpg_run.proofs.lemmas.fleet.Counts.{is_in_exactly}
use Rattle.tfpg_run.proofs.fleet.watch.is_in.Goals as goal

pub returns : goal.returns
returns c = is_in_exactly c.args.position c.args.set c.has.result c.has.ensures.member
