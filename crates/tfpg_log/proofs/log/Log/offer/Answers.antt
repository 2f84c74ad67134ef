use Rattle.std.proofs.Common.{sym, subst}
use Rattle.tfpg_log.specs.Log.{IsLogOf}
use Rattle.tfpg_log.proofs.lemmas.logs_of_lines.Accepting.{accepted_may_come, of-with_event}
use Rattle.tfpg_log.proofs.log.Log.offer.Goals as goal

pub accept-requires : goal.accept-requires
accept-requires c =
    let may = accepted_may_come c.args.graph.now c.args.self.now c.args.line.now c.in-Accepted.event (sym c.in-Accepted.ensures) in
    record { may_come = record { room = may.room; not_back = may.not_back; in_range = may.in_range }; mode_room = may.mode_room }

pub returns-in_ok-accept-in-Accepted-clause-of : goal.returns-in_ok-accept-in-Accepted-clause-of
returns-in_ok-accept-in-Accepted-clause-of c =
    let may = accepted_may_come c.args.graph.now c.args.self.now c.args.line.now c.in-Accepted.event (sym c.in-Accepted.ensures) in
    subst (IsLogOf c.args.graph.now) (sym c.in_ok-accept-in-Accepted.ensures.ok)
    (of-with_event c.args.graph.now c.args.self.now c.in-Accepted.event c.requires may)
