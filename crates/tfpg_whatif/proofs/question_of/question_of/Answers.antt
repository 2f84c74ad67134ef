use Rattle.tfpg_log.specs.Log.{with_event}
use Rattle.tfpg_log.specs.declared.event.Event.TheVariants.{Alarm, Silent}
use Rattle.tfpg_whatif.proofs.lemmas.Questioned.{next_silence, next_alarm, few_outcomes, is_question, is_known}
use Rattle.tfpg_whatif.proofs.question_of.question_of.Goals as goal

pub outcomes_after-requires-clause-next : goal.outcomes_after-requires-clause-next
outcomes_after-requires-clause-next g c =
    next_silence c.args.asking.now.engine.now.graph c.args.asking.now.engine.now.log c.log-log.result.now c.now-time.result c.args.node c.log-log.ensures.log c.is_always_ordered.ensures c.now-time.ensures
    c.requires.node.monitored c.requires.room

pub outcomes_after-requires-2-clause-next : goal.outcomes_after-requires-2-clause-next
outcomes_after-requires-2-clause-next g c =
    next_alarm c.args.asking.now.engine.now.graph c.args.asking.now.engine.now.log c.log-log.result.now c.now-time.result c.args.node c.log-log.ensures.log c.is_always_ordered.ensures c.now-time.ensures
    c.requires.node.monitored c.requires.room

pub question-requires-clause-silent_few : goal.question-requires-clause-silent_few
question-requires-clause-silent_few g c =
    few_outcomes c.args.asking.now (with_event c.args.asking.now.engine.now.log (Silent c.now-time.result c.args.node)) c.table.result.now c.in_ok-silent.silent c.as_slice.result.now c.len-few.result c.in_ok-silent.ensures
    c.as_slice.ensures c.requires.rising c.requires.asking.among c.table.ensures.table c.len-few.ensures.count c.len-few.ensures.few

pub question-requires-clause-alarm_few : goal.question-requires-clause-alarm_few
question-requires-clause-alarm_few g c =
    few_outcomes c.args.asking.now (with_event c.args.asking.now.engine.now.log (Alarm c.now-time.result c.args.node)) c.table.result.now c.in_ok-alarm.alarm c.as_slice-2.result.now c.len-few.result c.in_ok-alarm.ensures
    c.as_slice-2.ensures c.requires.rising c.requires.asking.among c.table.ensures.table c.len-few.ensures.count c.len-few.ensures.few

pub returns-clause-question : goal.returns-clause-question
returns-clause-question g c =
    is_question c.args.asking.now c.log-log.result.now c.now-time.result c.args.node c.log-log.ensures.log c.now-time.ensures c.in_ok-silent.silent c.in_ok-alarm.alarm c.as_slice.result.now c.as_slice-2.result.now
    c.as_slice.ensures c.as_slice-2.ensures c.in_ok-silent.ensures c.in_ok-alarm.ensures c.question.result c.question.ensures c.requires.node

pub returns-clause-known : goal.returns-clause-known
returns-clause-known g c =
    is_known c.args.asking.now c.log-log.result.now c.now-time.result c.args.node c.log-log.ensures.log c.now-time.ensures c.in_ok-silent.silent c.in_ok-alarm.alarm c.as_slice.result.now c.as_slice-2.result.now
    c.as_slice.ensures c.as_slice-2.ensures c.in_ok-silent.ensures c.in_ok-alarm.ensures c.question.result c.question.ensures
