-- The log of a list of lines is in order and of its graph.
use Rattle.std.proofs.Common.{◌≡◌, ℕ, List, [], ◌∷◌, ◌++◌, refl, arith}
use Rattle.std.specs.Prelude.{fold}
use Rattle.std.proofs.lemmas.Bool.{cond_both}
use Rattle.std.proofs.lemmas.List.Sums.{fold_push}
use Rattle.tfpg_graph.specs.Graph.{Tfpg}
use Rattle.tfpg_log.specs.declared.event.Offered.{Offered}
use Rattle.tfpg_log.specs.declared.event.Offered.TheVariants.{Accepted, Refused}
use Rattle.tfpg_log.specs.Log.{Logbook, IsLogOf, IsOrdered}
use Rattle.tfpg_log.specs.Accepted.{reply_to}
use Rattle.tfpg_log.specs.LogOfLines.{new_log, log_after_reply, log_after, log_of_lines}
use Rattle.tfpg_base.specs.Lines.{is_too_long}
use Rattle.tfpg_log.proofs.lemmas.logs_of_lines.Accepting.{accepted_may_come, of-with_event}
use Rattle.tfpg_log.proofs.lemmas.events.Order.{ordered-with_event}

-- One more line makes one more step.
pub log_of_lines-push : (graph : Tfpg) (lines : List (List ℕ)) (line : List ℕ)
    → log_of_lines graph (lines ++ line ∷ []) ≡ log_after graph (log_of_lines graph lines) line
log_of_lines-push graph lines line = fold_push (log_after graph) new_log lines line

-- the log is in order, and of the graph
record IsRightLog (graph : Tfpg) (log : Logbook) : Type 0 where
  of_graph : IsLogOf graph log
  ordered : IsOrdered log

module _ (graph : Tfpg) where
  by_reply : (log : Logbook) (line : List ℕ) (reply : Offered) → reply_to graph log line ≡ reply → IsRightLog graph log
      → IsRightLog graph (log_after_reply log reply)
  by_reply log line (Accepted event) is right =
      let may = accepted_may_come graph log line event is in
      record {
        of_graph = of-with_event graph log event right.of_graph may;
        ordered =
            ordered-with_event log event right.ordered may.not_back may.in_range;
      }
  by_reply log line (Refused refusal) is right = right

  still_right : (log : Logbook) (lines : List (List ℕ)) → IsRightLog graph log → IsRightLog graph (fold (log_after graph) log lines)
  still_right log [] right = right
  still_right log (line ∷ lines) right =
      still_right (log_after graph log line) lines
      (cond_both (is_too_long line) log (log_after_reply log (reply_to graph log line)) (IsRightLog graph) (λ _. right)
      (λ _. by_reply log line (reply_to graph log line) refl right))

  right_from_new : (lines : List (List ℕ)) → IsRightLog graph (log_of_lines graph lines)
  right_from_new lines =
      still_right new_log lines
      (record {
        of_graph = record { own = λ k d within. absurd (omega arith); ignored = λ k d within. absurd (omega arith) };
        ordered = record { in_order = λ i j d before within. absurd (omega arith); in_range = λ k d within. absurd (omega arith) };
      })

  -- It is of its graph,
  pub of-log_of_lines : (lines : List (List ℕ)) → IsLogOf graph (log_of_lines graph lines)
  of-log_of_lines lines = (right_from_new lines).of_graph

  -- and in order.
  pub ordered-log_of_lines : (lines : List (List ℕ)) → IsOrdered (log_of_lines graph lines)
  ordered-log_of_lines lines = (right_from_new lines).ordered
