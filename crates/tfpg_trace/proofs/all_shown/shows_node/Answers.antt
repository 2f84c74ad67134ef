use Rattle.tfpg_trace.proofs.all_shown.shows_node.Goals as goal

pub returns-then-shows_alarms : goal.returns-then-shows_alarms
returns-then-shows_alarms c = (
  λ silences. record { alarms = c.shows_alarms.ensures.0 c.if-shows_alarms.true; silences = c.shows_silences.ensures.0 silences },
  λ shows. c.shows_silences.ensures.1 shows.silences,
)
