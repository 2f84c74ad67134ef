use Rattle.std.proofs.Common.{sym}
use Rattle.tfpg_trace.proofs.lemmas.FailureModes.{outside_by_position, none_outside}
use Rattle.tfpg_trace.proofs.strays.is_outside.Goals as goal

pub returns-in-Some : goal.returns-in-Some
returns-in-Some c =
    outside_by_position c.args.graph.now c.args.set c.in-Some.position c.args.node c.has.result (sym c.in-Some.ensures) c.has.ensures.member

pub returns-in-None : goal.returns-in-None
returns-in-None c = none_outside c.args.graph.now c.args.set c.args.node (sym c.in-None.ensures)
