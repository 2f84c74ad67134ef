use Rattle.tfpg_predict.proofs.lemmas.Tables.{last_alarm_is}
use Rattle.tfpg_predict.proofs.kept.last_alarm.Goals as goal

pub returns : goal.returns
returns c = last_alarm_is c.args.log.now c.args.node c.last_alarm.result c.last_alarm.ensures
