-- The times of the first and the last alarm of a node, and the last instant up to which an event says that it is not active.
use Rattle.std.proofs.Common.{◌≡◌, ℕ, ◌≤◌, Option, Some, None, ap, subst}
use Rattle.std.specs.Prelude.{MatchOption}
use Rattle.tfpg_graph.specs.Graph.{Tfpg}
use Rattle.tfpg_log.specs.declared.event.Event.{Event}
use Rattle.tfpg_log.specs.declared.event.Event.TheVariants.{Alarm}
use Rattle.tfpg_log.specs.Log.{Logbook, IsOrdered, event_at, time_of_event, alarm_of, quiet_at}
use Rattle.tfpg_log.specs.LastAlarm.{IsLastAlarm}
use Rattle.tfpg_log.specs.Quiet.{IsLastQuiet}
use Rattle.tfpg_log.proofs.lemmas.events.AlarmEvents.{alarm_event_is, alarm_event_of, alarm_event_first}
use Rattle.tfpg_log.proofs.lemmas.events.LastAlarms.{first_is_earliest, last_alarm_is_latest}
use Rattle.tfpg_log.proofs.lemmas.events.SilenceTimes.{last_is_latest}
use Rattle.tfpg_trace.specs.inside.Shown.{IsAlarmTime, IsQuietUpto, AreAlarmTimes, IsQuietLongest}

module _ (log : Logbook) (node : ℕ) where
  -- no alarm
  pub no_alarm_time : alarm_of log node ≡ None → (time : ℕ) → IsAlarmTime log node time → ⊥
  no_alarm_time none time is =
      let event = alarm_event_first log node is.0 time is.1 in
      let there = (alarm_event_is log node event.0 event.1).2 in
      absurd (cc (none, there))

  -- the times of the first alarm and of the last
  pub alarm_times_are : IsOrdered log → (first number : ℕ) (last : Event) → alarm_of log node ≡ Some first
      → IsLastAlarm log node (Some number) → event_at log number ≡ Some last
      → AreAlarmTimes log node first (time_of_event last)
  alarm_times_are ordered first number last first_at is at =
      let event = alarm_event_of log node first first_at in
      let there = alarm_event_is log node event.0 event.1 in
      let same : there.0 ≡ first = cc (there.2, first_at) in
      let time : Alarm is.time node ≡ last = cc (is.alarm, at) in
      record {
        first_is = (event.0, subst (λ t. event_at log event.0 ≡ Some (Alarm t node)) same there.1);
        last_is = (number, subst (λ t. event_at log number ≡ Some (Alarm t node)) (ap time_of_event time) is.alarm);
        between = λ other alarm. (
          first_is_earliest log ordered node first alarm.0 other first_at alarm.1,
          subst (λ t. other ≤ t) (ap time_of_event time)
              (last_alarm_is_latest log node number is ordered is.time alarm.0 other is.alarm alarm.1),
        );
      }

module _ (graph : Tfpg) (log : Logbook) (node : ℕ) where
  -- the instant that the last silence says
  pub longest_is : IsOrdered log → (number : ℕ) (result : Option ℕ) → IsLastQuiet graph log node (Some number)
      → quiet_at graph log number node ≡ result
      → MatchOption result ((until : ℕ) → IsQuietUpto graph log node until → ⊥) (IsQuietLongest graph log node)
  longest_is ordered number None last at = let silent = last.silent in absurd (cc (silent, at))
  longest_is ordered number (Some until) last at = record {
    is = (number, at);
    last = λ other is. last_is_latest graph log node number last ordered until is.0 other at is.1;
  }
