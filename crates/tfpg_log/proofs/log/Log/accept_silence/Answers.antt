use Rattle.std.proofs.Common.{◌+◌, ◌<◌, ◌≤◌, length, arith, ap, sym, subst}
use Rattle.tfpg_log.specs.declared.limits.TheConstants.{MAX_EVENTS}
use Rattle.tfpg_log.specs.Log.{Logbook, now_of}
use Rattle.tfpg_log.specs.inside.NodeEvents.{IsNodeEvents}
use Rattle.tfpg_log.proofs.lemmas.events.Indexes.{indexed_silence}
use Rattle.tfpg_log.proofs.log.Log.accept_silence.Goals as goal

pub invariant_of-self-2 : goal.invariant_of-self-2
invariant_of-self-2 c =
    let log : Logbook = record { events = c.self.inside.events.items; ignored = c.self.inside.ignored } in
    let length_is = ap (λ (log : Logbook). length log.events) c.self.view_is in
    let room : length c.self.inside.events.items < MAX_EVENTS = omega (arith, length_is, c.requires.room) in
    let not_back : now_of log ≤ c.args.time = omega (arith, ap now_of c.self.view_is, c.requires.not_back) in
    let own = subst (λ log. IsNodeEvents log c.args.node c.node_events-before.result) (sym c.self.view_is) c.node_events-before.ensures in
    rw c.in_ok-push.ensures.items
    (indexed_silence log c.self.inside.nodes.items c.self.inside.last_sweep c.self.inside.changes.items c.self.inside.change_count c.self.invariant room c.args.time not_back c.requires.in_range
    c.lengthen.new.nodes.items c.in_ok-lengthen.ensures.same c.args.node
    (omega (arith, c.in_ok-lengthen.ensures.long)) c.node_events-before.result own
    (c.len.result + 1) (omega (arith, c.len.ensures.len, length_is)))
