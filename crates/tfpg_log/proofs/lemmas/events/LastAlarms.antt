-- The alarms of a node: the first has the least time, and the last the greatest.
use Rattle.std.proofs.Common.{◌≡◌, ℕ, ◌≤◌, Option, Some, None, inl, inr, refl, arith}
use Rattle.std.proofs.lemmas.Bool.{cases_lt}
use Rattle.tfpg_log.specs.declared.event.Event.TheVariants.{Alarm}
use Rattle.tfpg_log.specs.Log.{Logbook, GoesOn, IsOrdered, event_at, alarm_of}
use Rattle.tfpg_log.specs.LastAlarm.{IsLastAlarm}
use Rattle.tfpg_log.specs.inside.NodeEvents.{IsLast, IsAlarm}
use Rattle.tfpg_log.proofs.lemmas.events.AlarmEvents.{alarm_event_is, alarm_event_first}
use Rattle.tfpg_log.proofs.lemmas.events.PastKept.{events_kept}
use Rattle.tfpg_log.proofs.lemmas.events.SilenceTimes.{not_later}

-- the last number that is one of an alarm is that of the last alarm
pub as_last_alarm : (log : Logbook) (node : ℕ) (result : Option ℕ) → IsLast (IsAlarm log node) result → IsLastAlarm log node result
as_last_alarm log node None none = λ number time e. none number (time, e)
as_last_alarm log node (Some number) is = record {
  time = is.0.0;
  alarm = is.0.1;
  last = λ later at above e. is.1 later above (at, e);
}

-- The first alarm of a node has the least time.
pub first_is_earliest : (log : Logbook) → IsOrdered log → (node first number time : ℕ) → alarm_of log node ≡ Some first
    → event_at log number ≡ Some (Alarm time node) → first ≤ time
first_is_earliest log ordered node first number time there e =
    let event = alarm_event_first log node number time e in
    let is = alarm_event_is log node event.0 event.1 in
    let same : is.0 ≡ first = cc (is.2, there) in
    omega (arith, same, not_later log ordered event.0 number (Alarm is.0 node) (Alarm time node) is.1 e event.2)

module _ (log : Logbook) (node number : ℕ) (last : IsLastAlarm log node (Some number)) where
  upto_last : (other time : ℕ) → event_at log other ≡ Some (Alarm time node) → other ≤ number
  upto_last other time e = elim (cases_lt number other) [
    | inl lt ↦ absurd (last.last other time lt e)
    | inr ge ↦ ge
  ]

  -- The last alarm of a node has the greatest time.
  pub last_alarm_is_latest : IsOrdered log → (time other earlier : ℕ) → event_at log number ≡ Some (Alarm time node)
      → event_at log other ≡ Some (Alarm earlier node) → earlier ≤ time
  last_alarm_is_latest ordered time other earlier e also =
      not_later log ordered other number (Alarm earlier node) (Alarm time node) also e (upto_last other earlier also)

-- In a log that goes on the last alarm of a node is the same or a later one.
pub last_alarm_never_falls : (earlier later : Logbook) → GoesOn earlier later → (node number : ℕ) → IsLastAlarm earlier node (Some number)
    → (last : Option ℕ) → IsLastAlarm later node last → (other : ℕ) × (last ≡ Some other) × (number ≤ other)
last_alarm_never_falls earlier later goes_on node number was None never =
    absurd (never number was.time (events_kept earlier later goes_on number (Alarm was.time node) was.alarm))
last_alarm_never_falls earlier later goes_on node number was (Some other) is_last = (
  other,
  refl,
  upto_last later node other is_last number was.time
      (events_kept earlier later goes_on number (Alarm was.time node) was.alarm),
)
