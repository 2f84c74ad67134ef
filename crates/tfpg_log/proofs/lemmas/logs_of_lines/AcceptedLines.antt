-- The lines of events that may each come next make the log of these events.
use Rattle.std.proofs.Common.{◌≡◌, suc, List, [], ◌∷◌, ◌++◌, map, take, drop, fold, All, sym, ap, ◌∙◌, subst, refl, append_assoc, append-nil}
use Rattle.std.specs.List.{flat_map}
use Rattle.std.proofs.lemmas.Bool.{cond-false}
use Rattle.std.proofs.lemmas.List.Elements.{All-cons, All-nil}
use Rattle.std.proofs.lemmas.List.{take-map}
use Rattle.std.proofs.lemmas.List.Folds.{flat_map-map}
use Rattle.tfpg_base.proofs.lemmas.LinesOf.{lines_again}
use Rattle.tfpg_base.proofs.lemmas.lists.Cuts.{cut_at}
use Rattle.tfpg_base.proofs.lemmas.lists.Images.{slice_get-map_only}
use Rattle.tfpg_base.specs.Lines.{lines_of, with_line_end, HasNoLineEnd, is_too_long}
use Rattle.tfpg_graph.specs.Graph.{Tfpg}
use Rattle.tfpg_graph.specs.Valid.{IsValid}
use Rattle.tfpg_log.specs.declared.event.Event.{Event}
use Rattle.tfpg_log.specs.Accepted.{reply_to}
use Rattle.tfpg_log.specs.AcceptedLog.{AreAccepted}
use Rattle.tfpg_log.specs.EventLines.{AreNextEvents, event_line}
use Rattle.tfpg_log.specs.LogOfLines.{log_of_events, log_after_reply, log_after, log_of_lines}
use Rattle.tfpg_log.proofs.lemmas.logs_of_lines.AcceptedEvents.{line_said, is_accepted, is_short, is_clean}

module _ (graph : Tfpg) (valid : IsValid graph) (events : List Event) (next : AreNextEvents graph events) where
  -- The line of an event makes it the next one.
  one_step : (front back : List Event) (e : Event) → events ≡ front ++ e ∷ back
      → log_after graph (log_of_events front) (line_said graph e) ≡ log_of_events (front ++ e ∷ [])
  one_step front back e are =
      cond-false (is_too_long (line_said graph e)) (log_of_events front) _
      (is_short graph valid (log_of_events front) e (next front back e are))
      ∙ ap (log_after_reply (log_of_events front)) (is_accepted graph valid (log_of_events front) e (next front back e are))

  -- the lines of further events make these events
  steps : (front more back : List Event) → events ≡ front ++ (more ++ back)
      → fold (log_after graph) (log_of_events front) (map (line_said graph) more) ≡ log_of_events (front ++ more)
  steps front [] back are = ap log_of_events (sym (append-nil front))
  steps front (e ∷ more) back are =
      ap (λ log. fold (log_after graph) log (map (line_said graph) more)) (one_step front (more ++ back) e are)
      ∙ steps (front ++ e ∷ []) more back (are ∙ sym (append_assoc front (e ∷ []) (more ++ back)))
      ∙ ap log_of_events (append_assoc front (e ∷ []) more)

  -- the lines of the first events make these
  first_lines : (front back : List Event) → events ≡ front ++ back → log_of_lines graph (map (line_said graph) front) ≡ log_of_events front
  first_lines front back are = steps [] front back are

  -- no line has a line end in it
  clean_lines : (front more : List Event) → events ≡ front ++ more → All HasNoLineEnd (map (line_said graph) more)
  clean_lines front [] are = All-nil HasNoLineEnd
  clean_lines front (e ∷ more) are =
      All-cons HasNoLineEnd (line_said graph e) (map (line_said graph) more)
      (is_clean graph valid (log_of_events front) e (next front more e are))
      (clean_lines (front ++ e ∷ []) more (are ∙ sym (append_assoc front (e ∷ []) more)))

  -- the text's lines are those of the events
  lines_there : lines_of (flat_map (event_line graph) events) ≡ map (line_said graph) events
  lines_there =
      ap lines_of (sym (flat_map-map with_line_end (line_said graph) events))
      ∙ lines_again (map (line_said graph) events) (clean_lines [] events refl)

  -- The log of the lines has these events.
  pub log_there : log_of_lines graph (lines_of (flat_map (event_line graph) events)) ≡ log_of_events events
  log_there = ap (log_of_lines graph) lines_there ∙ first_lines events [] (sym (append-nil events))

  -- Each line is accepted.
  pub lines_accepted : AreAccepted graph (lines_of (flat_map (event_line graph) events))
  lines_accepted = subst (AreAccepted graph) (sym lines_there) (λ index line at.
      let item = slice_get-map_only (line_said graph) events index line at in
      let are = cut_at events index item.0 item.1 in
      let front = take index events in
      let its = next front (drop (suc index) events) item.0 are in
      let log : log_of_lines graph (take index (map (line_said graph) events)) ≡ log_of_events front =
      ap (log_of_lines graph) (take-map (line_said graph) index events) ∙ first_lines front (item.0 ∷ drop (suc index) events) are in (
        item.0,
        ap is_too_long (sym item.2) ∙ is_short graph valid (log_of_events front) item.0 its,
        (λ i. reply_to graph (log i) (sym item.2 i)) ∙ is_accepted graph valid (log_of_events front) item.0 its,
      ))
