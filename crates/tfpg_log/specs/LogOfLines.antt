-- How a log grows line by line.
use Rattle.std.specs.Prelude.{ℕ, List, [], fold, if◌then◌else◌}
use Rattle.tfpg_base.specs.Lines.{is_too_long}
use Rattle.tfpg_graph.specs.Graph.{Tfpg}
use Rattle.tfpg_log.specs.declared.event.Event.{Event}
use Rattle.tfpg_log.specs.declared.event.Offered.{Offered}
use Rattle.tfpg_log.specs.declared.event.Offered.TheVariants.{Accepted, Refused}
use Rattle.tfpg_log.specs.Log.{Logbook, with_event}
use Rattle.tfpg_log.specs.Accepted.{reply_to}

-- A new log has no events, and ignores no monitor.
abbrev pub new_log : Logbook
new_log = record { events = []; ignored = [] }

-- the log of these events, which ignores no monitor
abbrev pub log_of_events : List Event → Logbook
log_of_events events = record new_log { events = events }

-- An accepted line lengthens the log by one event, and a refused one leaves it as it was.
abbrev pub log_after_reply : Logbook → Offered → Logbook
log_after_reply log (Accepted event) = with_event log event
log_after_reply log (Refused refusal) = log

-- the log after one more line
abbrev pub log_after : Tfpg → Logbook → List ℕ → Logbook
log_after graph log line = if is_too_long line then log else log_after_reply log (reply_to graph log line)

-- The log of a list of lines, each offered in turn to what the lines before it made. Lines that are too long and lines
-- that are refused leave no trace in it.
abbrev pub log_of_lines : Tfpg → List (List ℕ) → Logbook
log_of_lines graph lines = fold (log_after graph) new_log lines
