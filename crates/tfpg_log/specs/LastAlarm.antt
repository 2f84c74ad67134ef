-- The last alarm of a node.
use Rattle.std.specs.Prelude.{◌≡◌, ℕ, ◌<◌, Option, Some, None}
use Rattle.tfpg_log.specs.declared.event.Event.TheVariants.{Alarm}
use Rattle.tfpg_log.specs.Log.{Logbook, event_at}

-- The event of this number is an alarm of the node, and no later event is one.
pub record IsLastAlarmAt (log : Logbook) (node number : ℕ) : Type 0 where
  pub time : ℕ
  pub alarm : event_at log number ≡ Some (Alarm time node)
  pub last : (later at : ℕ) → number < later → event_at log later ≡ Some (Alarm at node) → ⊥

-- the number of the node's last alarm; there is none where the node has no alarm
abbrev pub IsLastAlarm : Logbook → ℕ → Option ℕ → Type 0
IsLastAlarm log node None = (number time : ℕ) → event_at log number ≡ Some (Alarm time node) → ⊥
IsLastAlarm log node (Some number) = IsLastAlarmAt log node number
