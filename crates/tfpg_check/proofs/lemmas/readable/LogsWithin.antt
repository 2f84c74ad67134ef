-- A log of lines is within its limits, and so is why a line is refused.
use Rattle.std.proofs.Common.{◌≡◌, ℕ, ◌≤◌, cond, not, Bool, true, false, List, [], ◌∷◌, ◌++◌, length, Option, Some, None, Err, refl, subst, arith}
use Rattle.std.specs.Prelude.{IfSome, fold, is_none, nat_le, nat_lt, option_and_then, count_by}
use Rattle.std.specs.Bool.{then_some}
use Rattle.std.specs.List.{AllByRecursion}
use Rattle.std.specs.Option.{option_map_or}
use Rattle.std.specs.Str.Parse.{digits_value}
use Rattle.std.proofs.lemmas.Bool.{cond_both}
use Rattle.std.proofs.lemmas.List.{length_push}
use Rattle.tfpg_base.specs.Choice.{first_of, unless_refused}
use Rattle.tfpg_base.specs.Lines.{is_too_long}
use Rattle.tfpg_base.specs.Words.{is_number}
use Rattle.tfpg_base.specs.declared.limits.TheConstants.{MAX_TIME}
use Rattle.tfpg_base.proofs.lemmas.lists.Choices.{IfSome-option_and_then, IfSome-then_some}
use Rattle.tfpg_graph.specs.Graph.{Tfpg, is_monitored, mode_named, node_named}
use Rattle.tfpg_log.specs.declared.event.Offered.{Offered}
use Rattle.tfpg_log.specs.declared.event.Offered.TheVariants.{Accepted, Refused}
use Rattle.tfpg_log.specs.declared.limits.TheConstants.{MAX_EVENTS, MAX_MODE_CHANGES}
use Rattle.tfpg_log.specs.declared.refusal.Refusal.{Refusal}
use Rattle.tfpg_log.specs.declared.refusal.Refusal.TheVariants.{BadLine, BadNumber, TimeTooLarge, TimeBack, UnknownName, NotMonitored, NotAMode, LogFull, ModesFull}
use Rattle.tfpg_log.specs.Accepted.{event_of, offered, reply_to, reply_to_statement, statement_refusals, time_refusals}
use Rattle.tfpg_log.specs.Log.{Logbook, is_mode_change, now_of}
use Rattle.tfpg_log.specs.LogOfLines.{log_after, log_after_reply, log_of_lines, new_log}
use Rattle.tfpg_log.specs.LogStatements.{LogStatement, Alarm, Silent, Sweep, Tick, Mode, log_statement_of}
use Rattle.tfpg_log.proofs.lemmas.logs_of_lines.Accepting.{accepted_may_come}
use Rattle.tfpg_log.proofs.lemmas.logs_of_lines.LogsOfLines.{ordered-log_of_lines}
use Rattle.tfpg_log.specs.declared.refused_line.RefusedLine.{RefusedLine}
use Rattle.tfpg_log.specs.declared.refused_line.RefusedLine.TheVariants.{TooLong, Offer}
use Rattle.tfpg_report.specs.ReportLines.{IsCauseWithin}
use Rattle.tfpg_check.specs.Report.{event_of_line, event_of_reply}
use Rattle.tfpg_check.proofs.lemmas.readable.StepNumbers.{IsWithin}

-- ---- events

module _ (graph : Tfpg) where
  -- a line lengthens a log only where there is room
  few_after : (log : Logbook) (line : List ℕ) (reply : Offered) → reply_to graph log line ≡ reply → length log.events ≤ MAX_EVENTS → length (log_after_reply log reply).events ≤ MAX_EVENTS
  few_after log line (Accepted event) is few =
      let room = (accepted_may_come graph log line event is).room in
      omega (arith, room, length_push log.events event)
  few_after log line (Refused refusal) is few = few

  still_few : (log : Logbook) (lines : List (List ℕ)) → length log.events ≤ MAX_EVENTS → length (fold (log_after graph) log lines).events ≤ MAX_EVENTS
  still_few log [] few = few
  still_few log (line ∷ lines) few =
      still_few (log_after graph log line) lines
      (cond_both (is_too_long line) log (log_after_reply log (reply_to graph log line)) (λ (l : Logbook). length l.events ≤ MAX_EVENTS) (λ _. few)
      (λ _. few_after log line (reply_to graph log line) refl few))

  -- A log of lines is within its limits.
  pub log_within : (lines : List (List ℕ)) → IsWithin (log_of_lines graph lines)
  log_within lines = record { few = still_few new_log lines (omega arith); in_range = (ordered-log_of_lines graph lines).in_range }

-- ---- refusals

-- The refusal, if there is one, carries no time that is too large.
abbrev IsFine : Option Refusal → Type 0
IsFine test = IfSome test (λ refusal. IsCauseWithin (Offer refusal))

first_fine : (tests : List (Option Refusal)) (refusal : Refusal) → AllByRecursion IsFine tests → first_of tests ≡ Some refusal → IsCauseWithin (Offer refusal)
first_fine [] refusal fine is = absurd cc
first_fine (None ∷ tests) refusal fine is = first_fine tests refusal fine.1 is
first_fine (Some first ∷ tests) refusal fine is =
    let same : first ≡ refusal = cc in
    subst (λ (r : Refusal). IsCauseWithin (Offer r)) same fine.0

module _ (graph : Tfpg) (log : Logbook) (in_range : now_of log ≤ MAX_TIME) where
  -- a test that brings such a refusal
  fine : (test : Bool) (refusal : Refusal) → IsCauseWithin (Offer refusal) → IsFine (then_some test refusal)
  fine test refusal within = IfSome-then_some (λ (r : Refusal). IsCauseWithin (Offer r)) test refusal within

  unknown : (found : Option ℕ) → IsFine (then_some (is_none found) UnknownName)
  unknown found = fine (is_none found) UnknownName tt

  hidden : (found : Option ℕ) → IsFine (option_and_then (λ (node : ℕ). then_some (not (is_monitored graph node)) NotMonitored) found)
  hidden found =
      IfSome-option_and_then (λ (r : Refusal). IsCauseWithin (Offer r)) (λ (node : ℕ). then_some (not (is_monitored graph node)) NotMonitored) found
      (λ node at. fine (not (is_monitored graph node)) NotMonitored tt)

  room : IsFine (then_some (nat_le MAX_EVENTS (length log.events)) LogFull)
  room = fine (nat_le MAX_EVENTS (length log.events)) LogFull tt

  statement_fine : (statement : LogStatement) → AllByRecursion IsFine (statement_refusals graph log statement)
  statement_fine (Alarm name) = (unknown (node_named graph name), (hidden (node_named graph name), (room, tt)))
  statement_fine (Silent name) = (unknown (node_named graph name), (hidden (node_named graph name), (room, tt)))
  statement_fine Sweep = (room, tt)
  statement_fine Tick = (room, tt)
  statement_fine (Mode name) =
      (fine (is_none (mode_named graph name)) NotAMode tt, (room, (fine (nat_le MAX_MODE_CHANGES (count_by is_mode_change log.events)) ModesFull tt, tt)))

  all_fine : (time : List ℕ) (statement : LogStatement) → AllByRecursion IsFine (time_refusals (now_of log) time ++ statement_refusals graph log statement)
  all_fine time statement = (
    fine (not (is_number time)) BadNumber tt,
    (
      fine (nat_lt MAX_TIME (digits_value 10 time)) TimeTooLarge tt,
      (fine (nat_lt (digits_value 10 time) (now_of log)) (TimeBack (now_of log)) in_range, statement_fine statement),
    ),
  )

  by_first : (time : List ℕ) (statement : LogStatement) (refusal : Refusal) (first : Option Refusal)
      → first_of (time_refusals (now_of log) time ++ statement_refusals graph log statement) ≡ first
      → offered (unless_refused first (event_of graph (digits_value 10 time) statement)) ≡ Refused refusal → IsCauseWithin (Offer refusal)
  by_first time statement refusal None at is = absurd cc
  by_first time statement refusal (Some first) at is =
      let same : first ≡ refusal = cc in
      subst (λ (r : Refusal). IsCauseWithin (Offer r)) same (first_fine (time_refusals (now_of log) time ++ statement_refusals graph log statement) first (all_fine time statement) at)

  by_statement : (refusal : Refusal) (says : Option (List ℕ × LogStatement))
      → option_map_or (λ parts. reply_to_statement graph log parts.0 parts.1) says (Refused BadLine) ≡ Refused refusal → IsCauseWithin (Offer refusal)
  by_statement refusal None is =
      let same : BadLine ≡ refusal = cc in
      subst (λ (r : Refusal). IsCauseWithin (Offer r)) same tt
  by_statement refusal (Some parts) is =
      by_first parts.0 parts.1 refusal (first_of (time_refusals (now_of log) parts.0 ++ statement_refusals graph log parts.1)) refl is

  by_reply : (reply : Offered) (line : List ℕ) (cause : RefusedLine) → reply_to graph log line ≡ reply → event_of_reply reply ≡ Err cause → IsCauseWithin cause
  by_reply (Accepted event) line cause at is = absurd cc
  by_reply (Refused refusal) line cause at is =
      let same : Offer refusal ≡ cause = cc in
      subst IsCauseWithin same (by_statement refusal (log_statement_of line) at)

  -- Why a line is refused carries no time that is too large.
  pub cause_within : (line : List ℕ) (cause : RefusedLine) → event_of_line graph log line ≡ Err cause → IsCauseWithin cause
  cause_within line cause is = by (is_too_long line) is
    where
      by : (long : Bool) → cond long (Err TooLong) (event_of_reply (reply_to graph log line)) ≡ Err cause → IsCauseWithin cause
      by true is =
          let same : TooLong ≡ cause = cc in
          subst IsCauseWithin same tt
      by false is = by_reply (reply_to graph log line) line cause refl is
