use Rattle.tfpg_log.proofs.lemmas.events.LastAlarms.{as_last_alarm}
use Rattle.tfpg_log.proofs.log.Log.last_alarm.Goals as goal

pub returns : goal.returns
returns c = as_last_alarm c.args.self.now c.args.node c.node_events.result.last_alarm c.node_events.ensures.last_alarm
