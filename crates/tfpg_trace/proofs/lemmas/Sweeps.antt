-- What a sweep says of each node.
use Rattle.std.proofs.Common.{◌≡◌, ℕ, ◌-◌, ◌&&◌, List, length, take, Some, None, ap, sym, subst, ◌∙◌}
use Rattle.std.specs.Prelude.{is_none, is_some, option_and_then}
use Rattle.std.proofs.lemmas.Bool.{cond-true, and_from, not_from_false}
use Rattle.tfpg_base.specs.declared.activation.Activation.{Activation}
use Rattle.tfpg_graph.specs.Graph.{Tfpg, is_monitored}
use Rattle.tfpg_graph.proofs.lemmas.NodeAt.{monitored_within}
use Rattle.tfpg_log.specs.declared.event.Event.{Event}
use Rattle.tfpg_log.specs.declared.event.Event.TheVariants.{Sweep}
use Rattle.tfpg_log.specs.Log.{Logbook, event_at, first_events, alarm_among, silence_time, silence_at}
use Rattle.tfpg_log.specs.Explains.{Shows}
use Rattle.tfpg_log.proofs.lemmas.events.ShownByLookUp.{shows_silence_unless}
use Rattle.tfpg_trace.specs.FirstFault.{NoneBefore, IsFirstNode, IsSilenceNotShown}
use Rattle.tfpg_trace.specs.inside.Shown.{IsNotQuiet}

module _ (graph : Tfpg) (log : Logbook) (trace : List Activation) (number : ℕ) where
  -- the silence of an event, after those before it
  silence_by_event : (event : Event) (node : ℕ) → event_at log number ≡ Some event
      → silence_at graph log number node ≡ silence_time graph (first_events log (number - 1)) event node
  silence_by_event event node at = ap (option_and_then (λ said. silence_time graph (first_events log (number - 1)) said node)) at

  -- where each node that a sweep asks is quiet, it is shown
  pub sweep_shown : (event : Event) (time : ℕ) → event_at log number ≡ Some event → event ≡ Sweep time
      → NoneBefore (IsNotQuiet graph log trace number) (length graph.nodes)
      → Shows graph (first_events log (number - 1)) trace event
  sweep_shown event time at is none =
      subst (Shows graph (first_events log (number - 1)) trace) (sym is)
      (λ node monitored without.
      shows_silence_unless graph log trace node time
      (λ not_shown. none node time (monitored_within graph node monitored) (record {
        silent = silence_by_event (Sweep time) node (at ∙ ap Some is)
            ∙ cond-true (is_monitored graph node && is_none (alarm_among (take (number - 1) log.events) node)) (Some time) None
            (and_from (is_monitored graph node) (is_none (alarm_among (take (number - 1) log.events) node)) monitored
            (not_from_false (is_some (alarm_among (take (number - 1) log.events) node)) without));
        not_shown = not_shown;
      })))

  -- the first node that is not quiet is what is said of the event
  pub silence_not_shown : (event : Event) (node time : ℕ) → event_at log number ≡ Some event
      → IsFirstNode (IsNotQuiet graph log trace number) (length graph.nodes) node time
      → IsSilenceNotShown graph (first_events log (number - 1)) trace event node time
  silence_not_shown event node time at found = record {
    silent = sym (silence_by_event event node at) ∙ found.has.silent;
    not_shown = found.has.not_shown;
    first = λ earlier before silent.
        shows_silence_unless graph log trace earlier time
        (λ not_shown. found.first earlier time before
        (record { silent = silence_by_event event earlier at ∙ silent; not_shown = not_shown }));
  }
