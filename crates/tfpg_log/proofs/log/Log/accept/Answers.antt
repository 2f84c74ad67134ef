use Rattle.std.proofs.Common.{◌≡◌, ◌<◌, ◌≤◌, length, arith, ap, sym, subst}
use Rattle.tfpg_base.specs.declared.limits.TheConstants.{MAX_TIME}
use Rattle.tfpg_log.specs.declared.event.Event.{Event}
use Rattle.tfpg_log.specs.declared.limits.TheConstants.{MAX_EVENTS}
use Rattle.tfpg_log.specs.Log.{Logbook, now_of, time_of_event, with_event}
use Rattle.tfpg_log.specs.inside.LogIndex.{IsLogIndex}
use Rattle.tfpg_log.proofs.lemmas.events.Indexes.{indexed_tick}
use Rattle.tfpg_log.proofs.log.Log.accept.Goals as goal

pub invariant_of-self-in-Tick : goal.invariant_of-self-in-Tick
invariant_of-self-in-Tick c =
    let log : Logbook = record { events = c.self.inside.events.items; ignored = c.self.inside.ignored } in
    let at : time_of_event c.args.event ≡ c.in-Tick.time = ap time_of_event c.in-Tick.is in
    let room : length c.self.inside.events.items < MAX_EVENTS =
    omega (arith, ap (λ (log : Logbook). length log.events) c.self.view_is, c.requires.may_come.room) in
    let not_back : now_of log ≤ c.in-Tick.time = omega (arith, at, ap now_of c.self.view_is, c.requires.may_come.not_back) in
    let in_range : c.in-Tick.time ≤ MAX_TIME = omega (arith, at, c.requires.may_come.in_range) in
    rw c.in_ok-push-in-Tick.ensures.items
    (subst
    (λ (event : Event). IsLogIndex
    (with_event log event) c.self.inside.nodes.items c.self.inside.last_sweep c.self.inside.changes.items c.self.inside.change_count)
    (sym c.in-Tick.is)
    (indexed_tick log c.self.inside.nodes.items c.self.inside.last_sweep c.self.inside.changes.items c.self.inside.change_count c.self.invariant room c.in-Tick.time not_back in_range))
