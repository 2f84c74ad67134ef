-- A trace shows the first events of a log, as a log of their own, where it shows each event of the log before an index.
use Rattle.std.proofs.Common.{◌≡◌, ℕ, ◌<◌, List, take-take, sym, ap, subst, ◌∙◌, arith}
use Rattle.tfpg_base.specs.declared.activation.Activation.{Activation}
use Rattle.tfpg_base.proofs.lemmas.lists.Cuts.{slice_get-take, slice_get-taken}
use Rattle.tfpg_graph.specs.Graph.{Tfpg}
use Rattle.tfpg_log.specs.Log.{Logbook, first_events}
use Rattle.tfpg_log.specs.Explains.{Shows, ShowsAll}
use Rattle.tfpg_trace.specs.inside.Shown.{ShowsBefore}

module _ (graph : Tfpg) (log : Logbook) (trace : List Activation) (end : ℕ) where
  -- what comes before an index is the same
  same_front : (index : ℕ) → index < end → first_events (first_events log end) index ≡ first_events log index
  same_front index below =
      ap (λ events. let book : Logbook = record log { events = events } in book) (take-take index end log.events (omega arith))

  -- The first events are shown where each event before the index is.
  pub first_shown : ShowsBefore graph log trace end → ShowsAll graph (first_events log end) trace
  first_shown shown index event at =
      let there = slice_get-taken end log.events index event at in
      subst (λ before. Shows graph before trace event) (sym (same_front index there.0)) (shown index event there.0 there.1)

  -- Each event before the index is shown where the first events are.
  pub shown_before : ShowsAll graph (first_events log end) trace → ShowsBefore graph log trace end
  shown_before shown index event below at =
      subst (λ before. Shows graph before trace event) (same_front index below)
      (shown index event (slice_get-take end log.events index below ∙ at))
