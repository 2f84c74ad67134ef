use Rattle.std.proofs.Common.{ℕ, sym, subst, ◌∙◌}
use Rattle.std.specs.Prelude.{MatchOption}
use Rattle.tfpg_trace.specs.inside.Shown.{IsAlarmTime, AreAlarmTimes}
use Rattle.tfpg_trace.proofs.lemmas.NodeTimes.{no_alarm_time, alarm_times_are}
use Rattle.tfpg_trace.proofs.all_shown.alarm_times.Goals as goal

pub returns-in_err-first : goal.returns-in_err-first
returns-in_err-first c =
    subst
    (λ r. MatchOption r ((time : ℕ) → IsAlarmTime c.args.log.now c.args.node time → ⊥)
    (λ times. AreAlarmTimes c.args.log.now c.args.node times.0 times.1))
    (sym c.from_residual.ensures) (no_alarm_time c.args.log.now c.args.node (sym c.alarm_of.ensures ∙ c.in_err-first.was))

pub returns : goal.returns
returns c =
    subst (AreAlarmTimes c.args.log.now c.args.node c.in_ok-first.first) (sym c.time.ensures)
    (alarm_times_are c.args.log.now c.args.node c.is_always_ordered.ensures c.in_ok-first.first c.in_ok-last_alarm.field-0 c.in_ok-last.last
    (sym c.alarm_of.ensures ∙ c.in_ok-first.was) c.in_ok-last_alarm.ensures (sym c.find_event.ensures ∙ c.in_ok-last.was))
