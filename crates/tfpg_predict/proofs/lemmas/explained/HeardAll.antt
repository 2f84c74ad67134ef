-- A trace shows each event where it shows each alarm and each silence of a node.
use Rattle.std.proofs.Common.{◌≡◌, ℕ, zero, suc, ◌-◌, ◌<◌, ◌≤◌, true, List, [], ◌∷◌, length, Some, None, refl, sym, ap, ◌∙◌, subst, ⊎_elim, arith, slice_get}
use Rattle.std.specs.Prelude.{is_none, not}
use Rattle.std.proofs.lemmas.Bool.{and_from, eq-eqb, cond-true}
use Rattle.std.proofs.lemmas.List.{take-append-le}
use Rattle.std.proofs.lemmas.Option.{option_and_then_some, slice_get_within}
use Rattle.tfpg_base.specs.declared.activation.Activation.{Activation}
use Rattle.tfpg_base.proofs.lemmas.lists.Elements.{All-at}
use Rattle.tfpg_base.proofs.lemmas.lists.Written.{slice_get-append_some, slice_get-push_cases}
use Rattle.tfpg_graph.specs.Graph.{Tfpg, is_monitored}
use Rattle.tfpg_log.specs.declared.event.Event.{Event}
use Rattle.tfpg_log.specs.declared.event.Event.TheVariants.{Alarm, Silent, Sweep, Tick, Mode}
use Rattle.tfpg_log.specs.Log.{Logbook, IsLogOf, IsEventOf, event_at, first_events, with_event, time_of_event, alarm_of, is_silence_of, silence_time, silence_at}
use Rattle.tfpg_log.specs.Explains.{Shows, ShowsAll, ShowsAlarm, ShowsSilence}
use Rattle.tfpg_clause.proofs.lemmas.traces.FactsMet.{silence_shown, silence_of}

-- The trace shows each alarm of a node, and each silence of one, its own or that of a sweep.
pub record ShowsOfNodes (graph : Tfpg) (log : Logbook) (trace : List Activation) : Type 0 where
  pub alarms : (number time node : ℕ) → event_at log number ≡ Some (Alarm time node) → ShowsAlarm graph log trace node time
  pub silences : (number time node : ℕ) → silence_at graph log number node ≡ Some time → ShowsSilence graph log trace node time

module _ (graph : Tfpg) (log : Logbook) (trace : List Activation) where
  -- an event that is a silence of a node
  silence_there : (index node : ℕ) (event : Event) → slice_get log.events index ≡ Some event → is_silence_of graph (first_events log index) node event ≡ true
      → silence_at graph log (suc index) node ≡ Some (time_of_event event)
  silence_there index node event at is =
      silence_of graph log index node event at ∙ cond-true (is_silence_of graph (first_events log index) node event) (Some (time_of_event event)) None is

  module _ (of : IsLogOf graph log) (shows : ShowsAll graph log trace) where
    alarm_shown : (number time node : ℕ) → event_at log number ≡ Some (Alarm time node) → ShowsAlarm graph log trace node time
    alarm_shown zero time node at = absurd cc
    alarm_shown (suc index) time node at = shows index (Alarm time node) at

    silent_shown : (number time node : ℕ) → silence_at graph log number node ≡ Some time → ShowsSilence graph log trace node time
    silent_shown zero time node is = absurd cc
    silent_shown (suc index) time node is =
        option_and_then_some (λ (e : Event). silence_time graph (first_events log (suc index - 1)) e node) (event_at log (suc index)) time is
        (λ event at rest. (silence_shown graph (first_events log index) trace event node time (All-at (IsEventOf graph) log.events index event of.own at) (shows index event at)
        (sym (silence_of graph log index node event at) ∙ is)).shown)

    -- what shows each event shows all of nodes
    pub of_nodes : ShowsOfNodes graph log trace
    of_nodes = record { alarms = alarm_shown; silences = silent_shown }

  module _ (heard : ShowsOfNodes graph log trace) where
    event_shown : (index : ℕ) (event : Event) → slice_get log.events index ≡ Some event → Shows graph (first_events log index) trace event
    event_shown index (Alarm time node) at = heard.alarms (suc index) time node at
    event_shown index (Silent time node) at = heard.silences (suc index) time node (silence_there index node (Silent time node) at (eq-eqb node node refl))
    event_shown index (Sweep time) at = λ node monitored none.
        heard.silences (suc index) time node (silence_there index node (Sweep time) at (and_from (is_monitored graph node) (is_none (alarm_of (first_events log index) node)) monitored (ap not none)))
    event_shown index (Tick time) at = tt
    event_shown index (Mode time mode) at = tt

    -- and the other way round
    pub all_shown : ShowsAll graph log trace
    all_shown = event_shown

  -- ---- a tick more

  module _ (to : ℕ) where
    abbrev longer : Logbook
    longer = with_event log (Tick to)

    same_before : (index : ℕ) → index ≤ length log.events → first_events longer index ≡ first_events log index
    same_before index upto = λ i. record { events = take-append-le index log.events (Tick to ∷ []) upto i; ignored = log.ignored }

    pub shown_before : ShowsAll graph longer trace → ShowsAll graph log trace
    shown_before shows index event at =
        let within : index < length log.events = slice_get_within log.events index event at in
        subst (λ (before : Logbook). Shows graph before trace event) (same_before index (omega (arith, within)))
        (shows index event (slice_get-append_some log.events (Tick to ∷ []) index event at))

    pub shown_after : ShowsAll graph log trace → ShowsAll graph longer trace
    shown_after shows index event at = ⊎_elim
        (λ earlier.
        let within : index < length log.events = slice_get_within log.events index event earlier in
        subst (λ (before : Logbook). Shows graph before trace event) (sym (same_before index (omega (arith, within)))) (shows index event earlier))
        (λ last. subst (Shows graph (first_events longer index) trace) last.1 tt)
        (slice_get-push_cases log.events (Tick to) index event at)
