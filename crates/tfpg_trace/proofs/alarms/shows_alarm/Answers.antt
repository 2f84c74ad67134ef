use Rattle.std.proofs.Common.{refl, sym, ◌∙◌}
use Rattle.tfpg_log.proofs.lemmas.events.ShownByLookUp.{shows_alarm_by_interval, shows_alarm_in, shows_alarm_unheard}
use Rattle.tfpg_trace.proofs.alarms.shows_alarm.Goals as goal

pub returns-in-Some : goal.returns-in-Some
returns-in-Some c =
    let left = sym c.alarm_interval.ensures ∙ c.in-Some.is in (
      λ within. shows_alarm_in c.args.graph.now c.args.log.now c.args.trace.now c.args.node c.args.time
          (sym c.is_monitored.ensures ∙ c.if-not-is_monitored.false)
          c.in-Some.interval left (c.is_activated_in.ensures.0 within),
      λ shows. c.is_activated_in.ensures.1
          (shows_alarm_by_interval c.args.graph.now c.args.log.now c.args.trace.now c.args.node c.args.time shows c.in-Some.interval left),
    )

pub returns-in-None : goal.returns-in-None
returns-in-None c = (
  λ _. shows_alarm_unheard c.args.graph.now c.args.log.now c.args.trace.now c.args.node c.args.time
      (sym c.is_monitored.ensures ∙ c.if-not-is_monitored.false)
      (sym c.alarm_interval.ensures ∙ c.in-None.is),
  λ _. refl,
)
