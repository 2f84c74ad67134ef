-- Which lines a log accepts, and why others are refused.
use Rattle.std.specs.Prelude.{ℕ, List, [], ◌∷◌, ◌++◌, length, count_by, not, nat_lt, nat_le, Option, is_none, option_and_then, unwrap_or, Result, Ok, Err}
use Rattle.std.specs.Bool.{then_some}
use Rattle.std.specs.Option.{option_map_or}
use Rattle.std.specs.Str.Parse.{digits_value}
use Rattle.tfpg_base.specs.Choice.{first_of, unless_refused}
use Rattle.tfpg_base.specs.Words.{is_number}
use Rattle.tfpg_base.specs.declared.limits.TheConstants.{MAX_TIME}
use Rattle.tfpg_graph.specs.Graph.{Tfpg, node_named, mode_named, is_monitored}
use Rattle.tfpg_log.specs.declared.event.Event.{Event}
use Rattle.tfpg_log.specs.declared.event.Event.TheVariants as kinds
use Rattle.tfpg_log.specs.declared.event.Offered.{Offered}
use Rattle.tfpg_log.specs.declared.event.Offered.TheVariants.{Accepted, Refused}
use Rattle.tfpg_log.specs.declared.limits.TheConstants.{MAX_EVENTS, MAX_MODE_CHANGES}
use Rattle.tfpg_log.specs.declared.refusal.Refusal.{Refusal}
use Rattle.tfpg_log.specs.declared.refusal.Refusal.TheVariants.{BadLine, BadNumber, TimeTooLarge, TimeBack, UnknownName, NotMonitored, NotAMode, LogFull, ModesFull}
use Rattle.tfpg_log.specs.Log.{Logbook, now_of, is_mode_change}
use Rattle.tfpg_log.specs.LogStatements.{LogStatement, Alarm, Silent, Sweep, Tick, Mode, log_statement_of}

-- the tests of the word for the time, in order
abbrev pub time_refusals : ℕ → List ℕ → List (Option Refusal)
time_refusals now time =
    then_some (not (is_number time)) BadNumber
    ∷ then_some (nat_lt MAX_TIME (digits_value 10 time)) TimeTooLarge
    ∷ then_some (nat_lt (digits_value 10 time) now) (TimeBack now)
    ∷ []

-- the tests of the name in an alarm or a silence
abbrev pub monitor_refusals : Tfpg → List ℕ → List (Option Refusal)
monitor_refusals graph name =
    then_some (is_none (node_named graph name)) UnknownName
    ∷ option_and_then (λ node. then_some (not (is_monitored graph node)) NotMonitored) (node_named graph name)
    ∷ []

-- the test of the room for one more event
abbrev pub room_refusal : Logbook → Option Refusal
room_refusal log = then_some (nat_le MAX_EVENTS (length log.events)) LogFull

-- the tests of a statement, in order
abbrev pub statement_refusals : Tfpg → Logbook → LogStatement → List (Option Refusal)
statement_refusals graph log (Alarm name) = monitor_refusals graph name ++ room_refusal log ∷ []
statement_refusals graph log (Silent name) = monitor_refusals graph name ++ room_refusal log ∷ []
statement_refusals graph log (Mode name) =
    then_some (is_none (mode_named graph name)) NotAMode
    ∷ room_refusal log
    ∷ then_some (nat_le MAX_MODE_CHANGES (count_by is_mode_change log.events)) ModesFull
    ∷ []
statement_refusals graph log _ = room_refusal log ∷ []

-- The event of a statement at a time. A name of the graph has its number. What number another name gets does not
-- matter, since that name is refused.
abbrev pub event_of : Tfpg → ℕ → LogStatement → Event
event_of graph time (Alarm name) = kinds.Alarm time (unwrap_or (node_named graph name) 0)
event_of graph time (Silent name) = kinds.Silent time (unwrap_or (node_named graph name) 0)
event_of graph time Sweep = kinds.Sweep time
event_of graph time Tick = kinds.Tick time
event_of graph time (Mode name) = kinds.Mode time (unwrap_or (mode_named graph name) 0)

-- what becomes of a line, by its event or its refusal
abbrev pub offered : Result Event Refusal → Offered
offered (Ok event) = Accepted event
offered (Err refusal) = Refused refusal

-- A line with a statement is refused for the first test that holds. Where none does, its event is accepted.
abbrev pub reply_to_statement : Tfpg → Logbook → List ℕ → LogStatement → Offered
reply_to_statement graph log time statement =
    offered (unless_refused (first_of (time_refusals (now_of log) time ++ statement_refusals graph log statement))
    (event_of graph (digits_value 10 time) statement))

-- What becomes of a line that is offered to a log. One that says nothing is a bad line.
abbrev pub reply_to : Tfpg → Logbook → List ℕ → Offered
reply_to graph log line =
    option_map_or (λ parts. reply_to_statement graph log parts.0 parts.1) (log_statement_of line) (Refused BadLine)
