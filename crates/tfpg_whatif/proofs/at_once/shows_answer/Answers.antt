use Rattle.std.proofs.Common.{sym, ◌∙◌}
use Rattle.tfpg_whatif.proofs.lemmas.AtOnce.{answers_alarm, answers_silence}
use Rattle.tfpg_whatif.proofs.at_once.shows_answer.Goals as goal

pub returns-in-Silent : goal.returns-in-Silent
returns-in-Silent c = λ shows.
    answers_silence c.args.graph.now c.args.log.now c.args.trace.now c.args.event c.in-Silent.time c.in-Silent.node c.in-Silent.is (c.shows_silence.ensures shows)

pub returns-then-is_monitored : goal.returns-then-is_monitored
returns-then-is_monitored c = λ shows.
    answers_alarm c.args.graph.now c.args.log.now c.args.trace.now c.args.event c.in-Alarm.time c.in-Alarm.node c.in-Alarm.is (sym c.is_monitored.ensures ∙ c.if-is_monitored.true)
    (c.shows_alarm.ensures shows)
