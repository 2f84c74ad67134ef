-- The tests of a line, group by group, come to what the definition of accepted lines says of all of them.
use Rattle.std.proofs.Common.{◌≡◌, ℕ, List, Option, Some, Ok, Err, sym, ap, ◌∙◌}
use Rattle.std.specs.Option.{option_map_or}
use Rattle.std.specs.Str.Parse.{digits_value}
use Rattle.tfpg_base.specs.Choice.{first_of, unless_refused}
use Rattle.tfpg_base.proofs.lemmas.lists.Choices.{first_of-append_some, first_of-append_none, refusal-from_err, refusal-from_ok}
use Rattle.tfpg_graph.specs.Graph.{Tfpg}
use Rattle.tfpg_log.specs.declared.event.Offered.TheVariants.{Refused}
use Rattle.tfpg_log.specs.declared.refusal.Refusal.{Refusal}
use Rattle.tfpg_log.specs.declared.refusal.Refusal.TheVariants.{BadLine}
use Rattle.tfpg_log.specs.Log.{Logbook, now_of}
use Rattle.tfpg_log.specs.LogStatements.{LogStatement, log_statement_of}
use Rattle.tfpg_log.specs.Accepted.{time_refusals, statement_refusals, event_of, offered, reply_to_statement, reply_to}

module _ (graph : Tfpg) (log : Logbook) (line time : List ℕ) (statement : LogStatement)
    (says : log_statement_of line ≡ Some (time, statement)) where
  by_statement : reply_to graph log line ≡ reply_to_statement graph log time statement
  by_statement =
      ap
      (λ (parts : Option (List ℕ × LogStatement)). option_map_or (λ p. reply_to_statement graph log p.0 p.1) parts (Refused BadLine)) says

  -- A line whose time is refused is refused so.
  pub reply-time_refused : (now : ℕ) (refusal : Refusal) → now ≡ now_of log
      → Err refusal ≡ unless_refused (first_of (time_refusals now time)) (digits_value 10 time)
      → reply_to graph log line ≡ Refused refusal
  reply-time_refused now refusal at e =
      let refused : first_of (time_refusals now time) ≡ Some refusal =
      refusal-from_err (first_of (time_refusals now time)) (digits_value 10 time) refusal (sym e) in
      by_statement
      ∙ ap (λ first. offered (unless_refused first (event_of graph (digits_value 10 time) statement)))
      (first_of-append_some (time_refusals (now_of log) time) (statement_refusals graph log statement) refusal
      (ap (λ n. first_of (time_refusals n time)) (sym at) ∙ refused))

  -- A line with a right time is judged by its statement.
  pub reply-judged : (now number : ℕ) → now ≡ now_of log
      → Ok number ≡ unless_refused (first_of (time_refusals now time)) (digits_value 10 time)
      → reply_to graph log line ≡ offered
      (unless_refused (first_of (statement_refusals graph log statement)) (event_of graph number statement))
  reply-judged now number at e =
      let passed = refusal-from_ok (first_of (time_refusals now time)) (digits_value 10 time) number (sym e) in
      by_statement
      ∙ ap (λ first. offered (unless_refused first (event_of graph (digits_value 10 time) statement)))
      (first_of-append_none (time_refusals (now_of log) time) (statement_refusals graph log statement)
      (ap (λ n. first_of (time_refusals n time)) (sym at) ∙ passed.0))
      ∙ ap (λ n. offered (unless_refused (first_of (statement_refusals graph log statement)) (event_of graph n statement))) passed.1
