-- A log whose lines are all accepted has an event for each.
use Rattle.std.proofs.Common.{◌≡◌, ℕ, zero, suc, ◌≤◌, cond, List, [], ◌∷◌, ◌++◌, length, take, refl, sym, ap, ◌∙◌, arith}
use Rattle.std.proofs.lemmas.List.{take_all, length_push}
use Rattle.tfpg_base.proofs.lemmas.lists.Cuts.{take-item}
use Rattle.tfpg_base.proofs.lemmas.lists.Elements.{slice_get-there}
use Rattle.tfpg_graph.specs.Graph.{Tfpg}
use Rattle.tfpg_log.specs.Accepted.{reply_to}
use Rattle.tfpg_log.specs.AcceptedLog.{AreAccepted, IsAccepted}
use Rattle.tfpg_log.specs.Log.{Logbook, with_event}
use Rattle.tfpg_log.specs.LogOfLines.{log_after_reply, log_of_lines}
use Rattle.tfpg_log.proofs.lemmas.logs_of_lines.LogsOfLines.{log_of_lines-push}

module _ (graph : Tfpg) where
  -- an accepted line is one event more
  one_more_event : (lines : List (List ℕ)) (line : List ℕ) (accepted : IsAccepted graph lines line)
      → log_of_lines graph (lines ++ line ∷ []) ≡ with_event (log_of_lines graph lines) accepted.0
  one_more_event lines line accepted =
      log_of_lines-push graph lines line
      ∙ ap (λ b. cond b (log_of_lines graph lines) (log_after_reply (log_of_lines graph lines) (reply_to graph (log_of_lines graph lines) line))) accepted.1
      ∙ ap (log_after_reply (log_of_lines graph lines)) accepted.2

  -- so the first lines have as many events
  first_events : (lines : List (List ℕ)) → AreAccepted graph lines → (count : ℕ) → count ≤ length lines → length (log_of_lines graph (take count lines)).events ≡ count
  first_events lines accepted zero within = refl
  first_events lines accepted (suc count) within =
      let there = slice_get-there lines count (omega (arith, within)) in
      let more = accepted count there.0 there.1 in
      let log = log_of_lines graph (take count lines) in
      omega (
        arith,
        ap (λ (l : Logbook). length l.events) (ap (log_of_lines graph) (take-item lines count there.0 there.1) ∙ one_more_event (take count lines) there.0 more),
        length_push log.events more.0,
        first_events lines accepted count (omega (arith, within)),
      )

  pub accepted_events : (lines : List (List ℕ)) → AreAccepted graph lines → length (log_of_lines graph lines).events ≡ length lines
  accepted_events lines accepted =
      ap (λ (ls : List (List ℕ)). length (log_of_lines graph ls).events) (sym (take_all (length lines) lines (omega arith)))
      ∙ first_events lines accepted (length lines) (omega arith)
