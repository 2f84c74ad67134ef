-- The index of a log's events stays right as events come.
use Rattle.std.proofs.Common.{◌≡◌, ℕ, suc, ◌+◌, ◌<◌, ◌≤◌, false, List, [], ◌∷◌, ◌++◌, length, set, Option, Some, refl, inl, inr, sym, subst, ◌∙◌, arith}
use Rattle.std.proofs.lemmas.Bool.{ne_eqb}
use Rattle.std.proofs.lemmas.Bool.Decides.{eqb_tells}
use Rattle.std.proofs.lemmas.Grind.{get_or-set_at}
use Rattle.std.proofs.lemmas.List.{get_or-set_other, length_push}
use Rattle.tfpg_log.specs.declared.event.Event.{Event}
use Rattle.tfpg_log.specs.declared.event.Event.TheVariants.{Alarm, Silent, Sweep, Tick, Mode}
use Rattle.tfpg_log.specs.declared.mode_change.ModeChange.{ModeChange}
use Rattle.tfpg_log.specs.Log.{Logbook, now_of, is_alarm_of, time_of_event, is_mode_change, mode_after, with_event, ignoring}
use Rattle.tfpg_base.specs.declared.limits.TheConstants.{MAX_TIME}
use Rattle.tfpg_log.specs.declared.limits.TheConstants.{MAX_EVENTS, MAX_MODE_CHANGES}
use Rattle.tfpg_log.specs.inside.SpanIndex.{begin_of_span, BeginSpans, with_change}
use Rattle.tfpg_log.specs.inside.LogIndex.{IsLogIndex}
use Rattle.tfpg_log.specs.declared.node_events.NodeEvents.{NodeEvents}
use Rattle.tfpg_log.specs.inside.NodeEvents.{IsLast, IsSweep, IsNodeEvents, AreSameOfNodes, events_of, no_events, with_alarm}
use Rattle.tfpg_log.proofs.lemmas.events.Events.{now-with_event}
use Rattle.tfpg_log.proofs.lemmas.events.Order.{ordered-with_event}
use Rattle.tfpg_log.proofs.lemmas.events.NodesEvents.{node_kept, node_silenced, node_alarmed, last_sweep_kept, last_sweep_new}
use Rattle.tfpg_log.proofs.lemmas.changes.ModeChanges.{mode_after-append, mode_before_change, mode_after_change, changes-push}
use Rattle.tfpg_log.proofs.lemmas.changes.SpanChanges.{times_rise, spans_with_change, begun_with_change, one_more_change}

-- a change of mode apart, one more event leaves the spans as they are
same_spans : (events : List Event) (changes : List ModeChange) (event : Event)
    → ((held instant : ℕ) → mode_after held (event ∷ []) instant ≡ held)
    → BeginSpans (mode_after 0 events) changes → BeginSpans (mode_after 0 (events ++ event ∷ [])) changes
same_spans events changes event no_change spans = record {
  rise = spans.rise;
  differ = spans.differ;
  hold = λ number instant within.
      mode_after-append 0 events (event ∷ []) instant ∙ no_change (mode_after 0 events instant) instant ∙ spans.hold number instant within;
}

-- what is kept of each node, where one more event came
abbrev AreNodesEvents : Logbook → Event → List NodeEvents → Type 0
AreNodesEvents log event nodes = (node : ℕ) → IsNodeEvents (with_event log event) node (events_of nodes node)

indexed_by : (log : Logbook) (nodes longer : List NodeEvents) (sweep last : Option ℕ) (changes : List ModeChange) (count : ℕ)
    (event : Event) → IsLogIndex log nodes sweep changes count
    → length log.events < MAX_EVENTS → now_of log ≤ time_of_event event → time_of_event event ≤ MAX_TIME → is_mode_change event ≡ false
    → ((held instant : ℕ) → mode_after held (event ∷ []) instant ≡ held)
    → AreNodesEvents log event longer → IsLast (IsSweep (with_event log event)) last
    → IsLogIndex (with_event log event) longer last changes count
indexed_by log nodes longer sweep last changes count event index room not_back in_range uncounted no_change own swept = record {
  few = omega (arith, length_push log.events event, room);
  own = own;
  swept = swept;
  counted = grind (arith, index.counted, changes-push log.events event, uncounted);
  few_changes = index.few_changes;
  fewer = index.fewer;
  spans = same_spans log.events changes event no_change index.spans;
  in_order = index.in_order;
  by_now = omega (arith, index.by_now, not_back, now-with_event log event);
  ordered = ordered-with_event log event index.ordered not_back in_range;
}

-- an event of no node leaves what is kept of each
own_kept : (log : Logbook) (nodes : List NodeEvents) (event : Event) → ((node : ℕ) → IsNodeEvents log node (events_of nodes node))
    → ((node : ℕ) → is_alarm_of node event ≡ false) → ((node time : ℕ) → event ≡ Silent time node → ⊥) → AreNodesEvents log event nodes
own_kept log nodes event own quiet other node = node_kept log event node (events_of nodes node) (quiet node) (other node) (own node)

-- an event of one node leaves what is kept of the others
own_set : (log : Logbook) (nodes longer : List NodeEvents) (event : Event) (index : ℕ) (entry : NodeEvents)
    → ((node : ℕ) → IsNodeEvents log node (events_of nodes node)) → AreSameOfNodes longer nodes → index < length longer
    → IsNodeEvents (with_event log event) index entry
    → ((node : ℕ) → (node ≡ index → ⊥) → (is_alarm_of node event ≡ false) × ((time : ℕ) → event ≡ Silent time node → ⊥))
    → AreNodesEvents log event (set longer index entry)
own_set log nodes longer event index entry own same lt is others node = elim (eqb_tells index node) [
  | inl it ↦ subst (λ n. IsNodeEvents (with_event log event) n (events_of (set longer index entry) n)) it.1
      (subst (IsNodeEvents (with_event log event) index) (sym (get_or-set_at longer index index entry no_events refl lt)) is)
  | inr other ↦ (
      let apart : node ≡ index → ⊥ = λ e. other.1 (sym e) in
      subst (IsNodeEvents (with_event log event) node) (sym (get_or-set_other longer index node entry no_events apart ∙ same node))
      (node_kept log event node (events_of nodes node) (others node apart).0 (others node apart).1 (own node)))
]

module _ (log : Logbook) (nodes : List NodeEvents) (sweep : Option ℕ) (changes : List ModeChange) (count : ℕ)
    (index : IsLogIndex log nodes sweep changes count)
    (room : length log.events < MAX_EVENTS) (time : ℕ) (not_back : now_of log ≤ time) (in_range : time ≤ MAX_TIME) where
  -- A tick leaves the index as it is.
  pub indexed_tick : IsLogIndex (with_event log (Tick time)) nodes sweep changes count
  indexed_tick =
      indexed_by log nodes nodes sweep sweep changes count (Tick time) index room not_back in_range refl (λ held instant. refl)
      (own_kept log nodes (Tick time) index.own (λ node. refl) (λ node t e. absurd cc))
      (last_sweep_kept log (Tick time) sweep (λ t e. absurd cc) index.swept)

  -- A sweep is the last.
  pub indexed_sweep : (number : ℕ) → number ≡ suc (length log.events)
      → IsLogIndex (with_event log (Sweep time)) nodes (Some number) changes count
  indexed_sweep number at =
      indexed_by log nodes nodes sweep (Some number) changes count (Sweep time) index room not_back in_range refl (λ held instant. refl)
      (own_kept log nodes (Sweep time) index.own (λ node. refl) (λ node t e. absurd cc))
      (last_sweep_new log time number at)

  -- A change of mode may begin a span, and is counted.
  pub indexed_mode : (mode : ℕ) → count < MAX_MODE_CHANGES
      → IsLogIndex (with_event log (Mode time mode)) nodes sweep (with_change changes time mode) (count + 1)
  indexed_mode mode mode_room =
      let last : begin_of_span changes (length changes) ≤ time + 1 = omega (arith, index.by_now, not_back) in
      let spans : BeginSpans (mode_after 0 (log.events ++ Mode time mode ∷ [])) (with_change changes time mode) =
      spans_with_change (mode_after 0 log.events) (mode_after 0 (log.events ++ Mode time mode ∷ [])) changes time mode index.spans last
      (mode_before_change log.events time mode) (mode_after_change log.events time mode) in
      record {
        few = omega (arith, length_push log.events (Mode time mode), room);
        own = own_kept log nodes (Mode time mode) index.own (λ node. refl) (λ node t e. absurd cc);
        swept = last_sweep_kept log (Mode time mode) sweep (λ t e. absurd cc) index.swept;
        counted = omega (arith, index.counted, changes-push log.events (Mode time mode));
        few_changes = omega (arith, mode_room);
        fewer = omega (arith, index.fewer, one_more_change changes time mode);
        spans = spans;
        in_order = times_rise (with_change changes time mode) spans.rise;
        by_now =
            omega (
              arith,
              begun_with_change (mode_after 0 log.events) changes time mode index.spans last,
              now-with_event log (Mode time mode),
            );
        ordered = ordered-with_event log (Mode time mode) index.ordered not_back in_range;
      }

  module _ (longer : List NodeEvents) (same : AreSameOfNodes longer nodes) (node : ℕ) (lt : node < length longer) (before : NodeEvents)
      (is : IsNodeEvents log node before)
      (number : ℕ) (at : number ≡ suc (length log.events)) where
    -- A silence of a node is its last.
    pub indexed_silence : IsLogIndex (with_event log (Silent time node))
        (set longer node
        (record {
          first_alarm = before.first_alarm;
          last_alarm = before.last_alarm;
          silence = Some number;
          sweep =
              before.sweep;
        })) sweep changes count
    indexed_silence =
        indexed_by log nodes
        (set longer node
        (record {
          first_alarm = before.first_alarm;
          last_alarm = before.last_alarm;
          silence = Some number;
          sweep =
              before.sweep;
        })) sweep sweep changes count (Silent time node)
        index room not_back in_range refl (λ held instant. refl)
        (own_set log nodes longer (Silent time node) node
        (record {
          first_alarm = before.first_alarm;
          last_alarm = before.last_alarm;
          silence = Some number;
          sweep =
              before.sweep;
        }) index.own same lt
        (node_silenced log time number at node before is)
        (λ other apart. (refl, λ t e. (let it : node ≡ other = cc in apart (sym it)))))
        (last_sweep_kept log (Silent time node) sweep (λ t e. absurd cc) index.swept)

    -- An alarm of a node is its last.
    pub indexed_alarm : IsLogIndex (with_event log (Alarm time node)) (set longer node (with_alarm before number sweep)) sweep changes count
    indexed_alarm =
        indexed_by log nodes (set longer node (with_alarm before number sweep)) sweep sweep changes count (Alarm time node)
        index room not_back in_range refl (λ held instant. refl)
        (own_set log nodes longer (Alarm time node) node (with_alarm before number sweep) index.own same lt
        (node_alarmed log time number at node before is sweep index.swept)
        (λ other apart. (ne_eqb node other (λ e. apart (sym e)), λ t e. absurd cc)))
        (last_sweep_kept log (Alarm time node) sweep (λ t e. absurd cc) index.swept)

-- What the log ignores does not bear on its index.
pub indexed_ignoring : (log : Logbook) (ignored : List ℕ) (nodes : List NodeEvents) (sweep : Option ℕ) (changes : List ModeChange)
    (count : ℕ)
    → IsLogIndex log nodes sweep changes count → IsLogIndex (ignoring log ignored) nodes sweep changes count
indexed_ignoring log ignored nodes sweep changes count index = record {
  few = index.few;
  own = λ node. record {
    first_alarm = (index.own node).first_alarm;
    last_alarm = (index.own node).last_alarm;
    silence = (index.own node).silence;
    sweep = (index.own node).sweep;
  };
  swept = index.swept;
  counted = index.counted;
  few_changes = index.few_changes;
  fewer = index.fewer;
  spans = index.spans;
  in_order = index.in_order;
  by_now = index.by_now;
  ordered = record { in_order = index.ordered.in_order; in_range = index.ordered.in_range };
}
