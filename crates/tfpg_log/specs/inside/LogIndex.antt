-- What a log keeps beside its events: which of them bound when each node became active, the last sweep, and the changes
-- that begin its spans.
use Rattle.std.specs.Prelude.{◌≡◌, ℕ, ◌+◌, ◌<◌, ◌≤◌, List, length, count_by, Option}
use Rattle.std.specs.List.Sorted.{IsNonDecreasingBy}
use Rattle.tfpg_log.specs.declared.mode_change.ModeChange.{ModeChange}
use Rattle.tfpg_log.specs.Log.{Logbook, IsOrdered, now_of, is_mode_change, mode_after}
use Rattle.tfpg_base.specs.declared.limits.TheConstants.{MAX_TIME}
use Rattle.tfpg_log.specs.declared.limits.TheConstants.{MAX_EVENTS, MAX_MODE_CHANGES}
use Rattle.tfpg_log.specs.declared.node_events.NodeEvents.{NodeEvents}
use Rattle.tfpg_log.specs.inside.NodeEvents.{IsLast, IsSweep, IsNodeEvents, events_of}
use Rattle.tfpg_log.specs.inside.SpanIndex.{begin_of_span, BeginSpans}

-- The index of a log's events: for each node those that bound when it became active, the last sweep, the changes of mode
-- that begin the spans, and how many events are changes of mode.
pub record IsLogIndex (log : Logbook) (nodes : List NodeEvents) (sweep : Option ℕ) (changes : List ModeChange)
    (count : ℕ) : Type 0 where
  pub few : length log.events ≤ MAX_EVENTS
  pub own : (node : ℕ) → IsNodeEvents log node (events_of nodes node)
  pub swept : IsLast (IsSweep log) sweep
  pub counted : count ≡ count_by is_mode_change log.events
  pub few_changes : count ≤ MAX_MODE_CHANGES
  pub fewer : length changes ≤ count
  pub spans : BeginSpans (mode_after 0 log.events) changes
  pub in_order : IsNonDecreasingBy (λ (change : ModeChange). change.time) changes
  pub by_now : begin_of_span changes (length changes) ≤ now_of log + 1
  pub ordered : IsOrdered log

-- One more event may come at this time: there is room for it, and the time is neither before now nor too large.
pub record MayComeAt (log : Logbook) (time : ℕ) : Type 0 where
  pub room : length log.events < MAX_EVENTS
  pub not_back : now_of log ≤ time
  pub in_range : time ≤ MAX_TIME
