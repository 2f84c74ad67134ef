use Rattle.std.proofs.Common.{◌<◌, ◌≤◌, length, arith, ap}
use Rattle.std.specs.Prelude.{count_by}
use Rattle.tfpg_log.specs.declared.limits.TheConstants.{MAX_EVENTS}
use Rattle.tfpg_log.specs.Log.{Logbook, now_of, is_mode_change}
use Rattle.tfpg_log.proofs.lemmas.events.Indexes.{indexed_mode}
use Rattle.tfpg_log.proofs.log.Log.accept_mode_change.Goals as goal

pub invariant_of-self-2 : goal.invariant_of-self-2
invariant_of-self-2 c =
    let log : Logbook = record { events = c.self.inside.events.items; ignored = c.self.inside.ignored } in
    let length_is = ap (λ (log : Logbook). length log.events) c.self.view_is in
    let room : length c.self.inside.events.items < MAX_EVENTS = omega (arith, length_is, c.requires.may_come.room) in
    let not_back : now_of log ≤ c.args.time = omega (arith, ap now_of c.self.view_is, c.requires.may_come.not_back) in
    rw (c.in_ok-push.ensures.items, c.in_ok-take_change.ensures.changes, c.reserve.ensures.items)
    (indexed_mode log c.self.inside.nodes.items c.self.inside.last_sweep c.self.inside.changes.items c.self.inside.change_count c.self.invariant room c.args.time not_back c.requires.may_come.in_range c.args.mode
    (omega (
      arith,
      c.self.invariant.counted,
      ap (λ (log : Logbook). count_by is_mode_change log.events) c.self.view_is,
      c.requires.mode_room,
    )))
