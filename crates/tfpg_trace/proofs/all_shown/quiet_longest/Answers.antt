use Rattle.std.proofs.Common.{sym}
use Rattle.tfpg_trace.proofs.lemmas.NodeTimes.{longest_is}
use Rattle.tfpg_trace.proofs.all_shown.quiet_longest.Goals as goal

pub returns : goal.returns
returns c =
    longest_is c.args.graph.now c.args.log.now c.args.node c.is_always_ordered.ensures c.in_ok-number.number c.quiet_at.result c.in_ok-number.ensures (sym c.quiet_at.ensures)
