use Rattle.std.proofs.Common.{refl}
use Rattle.tfpg_trace.proofs.lemmas.ShownByNode.{alarms_shown}
use Rattle.tfpg_trace.proofs.all_shown.shows_alarms.Goals as goal

pub returns-then-shows_alarm : goal.returns-then-shows_alarm
returns-then-shows_alarm c = (
  λ last. alarms_shown c.args.graph.now c.args.log.now c.args.trace.now c.args.node c.in-Some.first c.in-Some.last c.in-Some.ensures
      (c.shows_alarm.ensures.0 c.if-shows_alarm.true) (c.shows_alarm-then-shows_alarm.ensures.0 last),
  λ shows. c.shows_alarm-then-shows_alarm.ensures.1 (shows c.in-Some.last c.in-Some.ensures.last_is),
)

pub returns-else-shows_alarm : goal.returns-else-shows_alarm
returns-else-shows_alarm c = (
  λ first. absurd (cc (first, c.if-shows_alarm.false)),
  λ shows. c.shows_alarm.ensures.1 (shows c.in-Some.first c.in-Some.ensures.first_is),
)

pub returns-in-None : goal.returns-in-None
returns-in-None c = (λ _ time is. absurd (c.in-None.ensures time is), λ _. refl)
