-- What an accepted event is, and that a log with it is of its graph.
use Rattle.std.proofs.Common.{◌≡◌, ℕ, ◌<◌, ◌≤◌, List, [], ◌++◌, length, Option, Some, None, refl, sym, subst, arith}
use Rattle.std.specs.Prelude.{Result, Ok, Err, OnOk, OnErr, IsTrue, count_by, not, is_some, is_none, nat_lt, nat_le, bytes_eq, option_and_then, unwrap_or}
use Rattle.std.specs.Bool.{then_some}
use Rattle.std.specs.Option.{option_map_or}
use Rattle.std.specs.Str.Parse.{digits_value}
use Rattle.std.specs.List.{AllByRecursion}
use Rattle.std.proofs.lemmas.Bool.{false≢true, ltb-false, leb-false, not-false}
use Rattle.std.proofs.lemmas.List.Elements.{All-push, recursion_from_All}
use Rattle.std.proofs.lemmas.List.Quantifiers.{position-Some}
use Rattle.tfpg_base.specs.Choice.{first_of, unless_refused}
use Rattle.tfpg_base.proofs.lemmas.lists.Choices.{is_some-there, then_some-none, first_of-none}
use Rattle.tfpg_base.specs.declared.limits.TheConstants.{MAX_TIME}
use Rattle.tfpg_base.specs.declared.no_memory.NoMemory.{NoMemory}
use Rattle.tfpg_graph.specs.Graph.{Tfpg, node_named, mode_named, is_monitored}
use Rattle.tfpg_log.specs.declared.event.Event.{Event}
use Rattle.tfpg_log.specs.declared.event.Event.TheVariants as kinds
use Rattle.tfpg_log.specs.declared.event.Offered.TheVariants.{Accepted, Refused}
use Rattle.tfpg_log.specs.declared.limits.TheConstants.{MAX_EVENTS, MAX_MODE_CHANGES}
use Rattle.tfpg_log.specs.declared.refusal.Refusal.{Refusal}
use Rattle.tfpg_log.specs.declared.refusal.Refusal.TheVariants.{BadLine, TimeTooLarge, TimeBack, UnknownName, NotMonitored, NotAMode, LogFull, ModesFull}
use Rattle.tfpg_log.specs.Log.{Logbook, now_of, time_of_event, is_mode_change, with_event, IsEventOf, IsLogOf}
use Rattle.tfpg_log.specs.EventLines.{IsNextEvent}
use Rattle.tfpg_log.specs.LogStatements.{LogStatement, Alarm, Silent, Sweep, Tick, Mode, log_statement_of}
use Rattle.tfpg_log.specs.Accepted.{time_refusals, statement_refusals, room_refusal, event_of, offered, reply_to_statement, reply_to}

-- ---- what the tests say, where none refuses

-- no test refuses
abbrev pub AreNone : List (Option Refusal) → Type 0
AreNone tests = AllByRecursion (λ test. test ≡ None) tests

-- ---- the names in a statement that nothing refuses

-- the monitored node of a name
record IsMonitor (graph : Tfpg) (found : Option ℕ) : Type 0 where
  node : ℕ
  there : found ≡ Some node
  monitored : IsTrue (is_monitored graph node)

monitor : (graph : Tfpg) (found : Option ℕ) → then_some (is_none found) UnknownName ≡ None
    → option_and_then (λ node. then_some (not (is_monitored graph node)) NotMonitored) found ≡ None → IsMonitor graph found
monitor graph None unknown hidden = absurd cc
monitor graph (Some node) unknown hidden = record {
  node = node;
  there = refl;
  monitored = not-false (is_monitored graph node) (then_some-none (not (is_monitored graph node)) NotMonitored hidden);
}

-- ---- an accepted event may come

module _ (graph : Tfpg) (log : Logbook) (time : List ℕ) where
  module _ (statement : LogStatement) (none : AreNone (time_refusals (now_of log) time ++ statement_refusals graph log statement)) where
    -- an event at that time, once no test refuses the line
    comes : (event : Event) → time_of_event event ≡ digits_value 10 time → room_refusal log ≡ None → IsEventOf graph event
        → (IsTrue (is_mode_change event) → count_by is_mode_change log.events < MAX_MODE_CHANGES) → IsNextEvent graph log event
    comes event at room own mode_room =
        let in_range : digits_value 10 time ≤ MAX_TIME =
        ltb-false MAX_TIME (digits_value 10 time) (then_some-none (nat_lt MAX_TIME (digits_value 10 time)) TimeTooLarge none.1.0) in
        let not_back : now_of log ≤ digits_value 10 time =
        ltb-false (digits_value 10 time) (now_of log)
        (then_some-none (nat_lt (digits_value 10 time) (now_of log)) (TimeBack (now_of log)) none.1.1.0) in
        record {
          own = own;
          not_back = omega (arith, at, not_back);
          in_range = omega (arith, at, in_range);
          room = leb-false MAX_EVENTS (length log.events) (then_some-none (nat_le MAX_EVENTS (length log.events)) LogFull room);
          mode_room = mode_room;
        }

  may_come : (statement : LogStatement) → AreNone (time_refusals (now_of log) time ++ statement_refusals graph log statement)
      → IsNextEvent graph log (event_of graph (digits_value 10 time) statement)
  may_come (Alarm name) none =
      let found = monitor graph (node_named graph name) none.1.1.1.0 none.1.1.1.1.0 in
      subst (λ node. IsNextEvent graph log (kinds.Alarm (digits_value 10 time) (unwrap_or node 0))) (sym found.there)
      (comes (Alarm name) none (kinds.Alarm (digits_value 10 time) found.node) refl none.1.1.1.1.1.0 found.monitored
      (λ changes. absurd (false≢true changes)))
  may_come (Silent name) none =
      let found = monitor graph (node_named graph name) none.1.1.1.0 none.1.1.1.1.0 in
      subst (λ node. IsNextEvent graph log (kinds.Silent (digits_value 10 time) (unwrap_or node 0))) (sym found.there)
      (comes (Silent name) none (kinds.Silent (digits_value 10 time) found.node) refl none.1.1.1.1.1.0 found.monitored
      (λ changes. absurd (false≢true changes)))
  may_come Sweep none = comes Sweep none (kinds.Sweep (digits_value 10 time)) refl none.1.1.1.0 tt (λ changes. absurd (false≢true changes))
  may_come Tick none = comes Tick none (kinds.Tick (digits_value 10 time)) refl none.1.1.1.0 tt (λ changes. absurd (false≢true changes))
  may_come (Mode name) none =
      let found = is_some-there (mode_named graph name)
      (not-false (is_some (mode_named graph name)) (then_some-none (is_none (mode_named graph name)) NotAMode none.1.1.1.0)) in
      let below : found.0 < length graph.modes = (position-Some (λ m. bytes_eq m name) graph.modes found.0 [] found.1).0 in
      subst (λ mode. IsNextEvent graph log (kinds.Mode (digits_value 10 time) (unwrap_or mode 0))) (sym found.1)
      (comes (Mode name) none (kinds.Mode (digits_value 10 time) found.0) refl none.1.1.1.1.0 below
      (λ changes. leb-false MAX_MODE_CHANGES (count_by is_mode_change log.events)
      (then_some-none (nat_le MAX_MODE_CHANGES (count_by is_mode_change log.events)) ModesFull none.1.1.1.1.1.0)))

  by_tests : (statement : LogStatement) (event : Event) (first : Option Refusal)
      → first_of (time_refusals (now_of log) time ++ statement_refusals graph log statement) ≡ first
      → offered (unless_refused first (event_of graph (digits_value 10 time) statement)) ≡ Accepted event → IsNextEvent graph log event
  by_tests statement event (Some refusal) at e = absurd cc
  by_tests statement event None at e =
      let tests : List (Option Refusal) = time_refusals (now_of log) time ++ statement_refusals graph log statement in
      let same : event_of graph (digits_value 10 time) statement ≡ event = cc in
      subst (IsNextEvent graph log) same (may_come statement (recursion_from_All (λ test. test ≡ None) tests (first_of-none tests at)))

by_statement : (graph : Tfpg) (log : Logbook) (event : Event) (says : Option (List ℕ × LogStatement))
    → option_map_or (λ parts. reply_to_statement graph log parts.0 parts.1) says (Refused BadLine) ≡ Accepted event
    → IsNextEvent graph log event
by_statement graph log event None e = absurd cc
by_statement graph log event (Some parts) e =
    by_tests graph log parts.0 parts.1 event (first_of (time_refusals (now_of log) parts.0 ++ statement_refusals graph log parts.1)) refl e

-- An accepted event may come.
pub accepted_may_come : (graph : Tfpg) (log : Logbook) (line : List ℕ) (event : Event) → reply_to graph log line ≡ Accepted event
    → IsNextEvent graph log event
accepted_may_come graph log line event e = by_statement graph log event (log_statement_of line) e

-- A log with one more event that may come is of the graph.
pub of-with_event : (graph : Tfpg) (log : Logbook) (event : Event) → IsLogOf graph log → IsNextEvent graph log event
    → IsLogOf graph (with_event log event)
of-with_event graph log event of may = record { own = All-push (IsEventOf graph) log.events event of.own may.own; ignored = of.ignored }

-- So is a log that such an event was to be added to.
pub of-added : (graph : Tfpg) (old new : Logbook) (event : Event) (result : Result (Unit {0}) NoMemory) → IsLogOf graph old
    → IsNextEvent graph old event → OnOk result (new ≡ with_event old event)
    → OnErr result (new ≡ old) → IsLogOf graph new
of-added graph old new event (Ok done) of may ok err = subst (IsLogOf graph) (sym ok) (of-with_event graph old event of may)
of-added graph old new event (Err fault) of may ok err = subst (IsLogOf graph) (sym err) of
