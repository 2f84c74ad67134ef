use Rattle.std.proofs.Common.{sym}
use Rattle.tfpg_log.proofs.lemmas.events.AlarmEvents.{none_before_alarm, none_before_none}
use Rattle.tfpg_log.proofs.log.Log.is_without_alarm.Goals as goal

pub returns-in-Some : goal.returns-in-Some
returns-in-Some c = sym (none_before_alarm c.args.self.now c.args.count c.args.node c.in-Some.number (sym c.in-Some.ensures))

pub returns-in-None : goal.returns-in-None
returns-in-None c = sym (none_before_none c.args.self.now c.args.count c.args.node (sym c.in-None.ensures))
