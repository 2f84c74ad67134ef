-- A trace explains the probed log exactly where, without the probe, it explains the continued log, gives the node a time by the
-- bound, and gives the probe that same time.
use Rattle.std.proofs.Common.{◌≡◌, ◌≢◌, ℕ, ◌+◌, ◌-◌, ◌<◌, ◌≤◌, ◌==◌, Bool, true, false, not, List, [], ◌∷◌, ◌++◌, length, Contains, Some, IsTrue, slice_get, ⊎_elim, inl, inr, ◌⊎◌, refl, sym, ap, ◌∙◌, subst, arith}
use Rattle.std.proofs.lemmas.Bool.{cases_eq, cases_lt, false≢true, ne_eqb}
use Rattle.std.proofs.lemmas.List.{length_push}
use Rattle.std.proofs.lemmas.List.Elements.{All-contains, Contains-append_left, Contains-push, Contains-push_cases}
use Rattle.std.proofs.lemmas.Option.{same_Some}
use Rattle.tfpg_base.specs.declared.activation.Activation.{Activation}
use Rattle.tfpg_base.specs.Trace.{time_of}
use Rattle.tfpg_base.proofs.lemmas.TraceTimes.{time_there}
use Rattle.tfpg_base.proofs.lemmas.lists.Elements.{All-from_members, Contains-at, slice_get-contains}
use Rattle.tfpg_base.proofs.lemmas.lists.Passing.{Contains-filter, Contains-filter_only}
use Rattle.tfpg_graph.specs.declared.kind.Lag.{Lag}
use Rattle.tfpg_graph.specs.declared.edge.Edge.{Edge}
use Rattle.tfpg_graph.specs.Graph.{Tfpg, is_kind_at, is_failure, is_monitored, lag_or_zero, edges_into, failure_at}
use Rattle.tfpg_graph.specs.Probe.{probe_node, with_probe}
use Rattle.tfpg_graph.specs.Valid.{IsValid, IsValidEdge}
use Rattle.tfpg_graph.proofs.lemmas.NodeAt.{monitored_within}
use Rattle.tfpg_graph.proofs.lemmas.reach.Reaches.{Contains-from_among}
use Rattle.tfpg_log.specs.declared.event.Event.{Event}
use Rattle.tfpg_log.specs.declared.event.Event.TheVariants.{Alarm, Silent, Sweep, Tick, Mode}
use Rattle.tfpg_log.specs.Log.{Logbook, event_at, first_events, now_of, mode_at, is_ignored, silence_at}
use Rattle.tfpg_log.specs.Rules.{IsTraceOf, KeepsRulesOf}
use Rattle.tfpg_log.specs.Explains.{Explains, IsActivatedBefore, IsMember, Shows, ShowsAlarm, ShowsSilence}
use Rattle.tfpg_log.proofs.lemmas.changes.ModeChanges.{mode_after-append}
use Rattle.tfpg_log.proofs.lemmas.events.Events.{now-with_event}
use Rattle.tfpg_log.proofs.lemmas.events.AlarmIntervals.{interval_is}
use Rattle.tfpg_log.proofs.lemmas.events.ShownByLookUp.{shows_alarm_heard, shows_alarm_from_interval}
use Rattle.tfpg_log.proofs.lemmas.events.SilentNodes.{event_own, silent_within}
use Rattle.tfpg_predict.specs.LeastTime.{Lookahead, continued, ExplainsContinued}
use Rattle.tfpg_predict.specs.Probed.{probe_lag, without_probe, IsProbedTrace, IsProbeable}
use Rattle.tfpg_predict.proofs.lemmas.explained.ProbeParts.{test_before, lag_before, lag_probe, monitored_before, monitored_probe, test_probe, edges_before, failures_same}
use Rattle.tfpg_predict.proofs.lemmas.explained.ProbedTraces.{time_without, rising_without, all_without}
use Rattle.tfpg_predict.proofs.lemmas.explained.SameRules.{rules_same}
use Rattle.tfpg_predict.proofs.lemmas.explained.HeardAll.{ShowsOfNodes, of_nodes, all_shown, shown_before, shown_after}
use Rattle.tfpg_predict.proofs.lemmas.explained.KeptFacts.{KeepsEvents, IsSaidBy}
use Rattle.tfpg_predict.proofs.lemmas.explained.ProbeTimes.{modes_within, same_time, same_rules}

module _ (asked : Lookahead) (bound : ℕ) (name : List ℕ) (valid : IsValid asked.graph) (able : IsProbeable asked) (upto : bound ≤ asked.to)
    (kept : List Event) (keeps : KeepsEvents asked.graph asked.log kept) where
  abbrev graph : Tfpg
  graph = asked.graph

  abbrev log : Logbook
  log = asked.log

  abbrev probe : ℕ
  probe = length asked.graph.nodes

  abbrev lag : Lag
  lag = probe_lag asked.to bound

  abbrev next : Tfpg
  next = with_probe asked.graph name asked.node (probe_lag asked.to bound)

  abbrev later : Logbook
  later = record { events = kept ++ Alarm asked.to (length asked.graph.nodes) ∷ []; ignored = asked.log.ignored }

  abbrev longer : Logbook
  longer = continued asked.log asked.to

  -- ---- modes and times

  node_count : length next.nodes ≡ probe + 1
  node_count = length_push graph.nodes (probe_node name lag)

  modes : (instant : ℕ) → mode_at later instant ≡ mode_at longer instant
  modes instant =
      mode_after-append 0 kept (Alarm asked.to probe ∷ []) instant ∙ keeps.modes instant
      ∙ sym (mode_after-append 0 log.events (Tick asked.to ∷ []) instant)

  modes_in : (instant : ℕ) → mode_at later instant < length graph.modes
  modes_in instant = subst (λ (mode : ℕ). mode < length graph.modes) (sym (mode_after-append 0 kept (Alarm asked.to probe ∷ []) instant ∙ keeps.modes instant))
      (modes_within graph 0 log.events instant valid.has_mode able.of.own)

  now_later : now_of later ≡ asked.to
  now_later = now-with_event (record { events = kept; ignored = log.ignored }) (Alarm asked.to probe)

  now_longer : now_of longer ≡ asked.to
  now_longer = now-with_event log (Tick asked.to)

  -- ---- nodes

  other_node : (node : ℕ) → node < probe → node ≢ probe
  other_node node within same = omega (arith, within, same)

  source_within : (node : ℕ) (edge : Edge) → Contains (edges_into graph node) edge → edge.source < probe
  source_within node edge among =
      let found = Contains-filter_only (λ (e : Edge). e.target == node) graph.edges edge among in
      let is : IsValidEdge graph edge = All-contains (IsValidEdge graph) graph.edges edge valid.so_far.edges (Contains-at graph.edges found.0 edge found.1) in
      is.source

  failure_same : (position : ℕ) → failure_at next position ≡ failure_at graph position
  failure_same position = ap (λ (nodes : List ℕ). slice_get nodes position) (failures_same graph name asked.node lag)

  -- the probe is not ignored
  probe_heard : is_ignored log probe ≡ false
  probe_heard = by (is_ignored log probe) refl
    where
      by : (b : Bool) → is_ignored log probe ≡ b → is_ignored log probe ≡ false
      by false is = is
      by true is =
          let monitored : IsTrue (is_monitored graph probe) =
          All-contains (λ node. IsTrue (is_monitored graph node)) log.ignored probe able.of.ignored (Contains-from_among log.ignored probe is) in
          let within = monitored_within graph probe monitored in absurd (omega (arith, within))

  module _ (set : List ℕ) (trace : List Activation) where
    abbrev rest : List Activation
    rest = without_probe probe trace

    rest_time : (node : ℕ) → node < probe → time_of rest node ≡ time_of trace node
    rest_time node within = time_without probe trace node (other_node node within)

    -- ---- from the probed log

    module _ (explains : Explains next later set trace) where
      kept_shown : (event : Event) → Contains kept event → (index : ℕ) × Shows next (first_events later index) trace event
      kept_shown event among =
          let there : Contains later.events event = Contains-append_left kept (Alarm asked.to probe ∷ []) event among in
          (there.0, explains.shows there.0 event (slice_get-contains later.events event there))

      kept_alarm : (node time : ℕ) → node < probe → is_ignored log node ≡ false → Contains kept (Alarm time node)
          → IsActivatedBefore trace node (lag_or_zero graph node) time
      kept_alarm node time within heard among =
          let shown : ShowsAlarm next later trace node time = (kept_shown (Alarm time node) among).1 in
          subst (λ (l : Lag). IsActivatedBefore trace node l time) (lag_before graph name asked.node lag node within) (shows_alarm_heard next later trace node time heard shown)

      alarm_back : (number time node : ℕ) → event_at log number ≡ Some (Alarm time node) → ShowsAlarm graph log rest node time
      alarm_back number time node at =
          let monitored : IsTrue (is_monitored graph node) = event_own graph log number (Alarm time node) able.of at in
          let within = monitored_within graph node monitored in
          shows_alarm_from_interval graph log rest node time monitored
          (λ interval is.
          let leaves = interval_is graph log node time interval is in
          let between = keeps.alarms number time node at in
          let one = kept_alarm node between.first within leaves.heard between.first_in in
          let two = kept_alarm node between.last within leaves.heard between.last_in in
          let same : two.0 ≡ one.0 = same_Some two.0 one.0 (sym two.1 ∙ one.1) in
          let from = between.from in let till = between.upto in
          let earliest = leaves.earliest in let latest = leaves.latest in
          let upper = one.3 in let lower = two.2 in
          (one.0, rest_time node within ∙ one.1, omega (arith, till, earliest, lower, same), omega (arith, from, latest, upper)))

      silence_back : (number time node : ℕ) → silence_at graph log number node ≡ Some time → ShowsSilence graph log rest node time
      silence_back number time node is =
          let within = silent_within graph log number node time able.of is in
          let by = keeps.silences number time node is in
          let till = by.upto in
          let least : (lag_or_zero next node).least ≡ (lag_or_zero graph node).least = ap (λ (l : Lag). l.least) (lag_before graph name asked.node lag node within) in
          let shown : ShowsSilence next later trace node by.last = (kept_shown (Silent by.last node) by.last_in).1 in
          ⊎_elim (λ ignored. inl ignored)
          (λ quiet. inr (λ x before active.
          let upto_x = active.2 in
          quiet (by.last - (lag_or_zero graph node).least) (omega (arith, least, before, till)) (active.0, sym (rest_time node within) ∙ active.1, omega (arith, upto_x, before, till))))
          shown

      explained : ExplainsContinued asked set rest
      explained = record {
        trace_of = (
          rising_without probe trace explains.trace_of.0,
          all_without probe (λ a. a.node < probe) trace
              (λ a among other. let within = All-contains (λ (b : Activation). b.node < length next.nodes) trace a explains.trace_of.1 among in omega (arith, within, other, node_count)),
        );
        by_now = all_without probe (λ a. a.time ≤ now_of longer) trace
            (λ a among other. let within = All-contains (λ (b : Activation). b.time ≤ now_of later) trace a explains.by_now among in omega (arith, within, now_later, now_longer));
        from_set = all_without probe (λ a. IsTrue (is_kind_at is_failure graph a.node) → IsMember graph set a.node) trace
            (λ a among other failure.
            let within = All-contains (λ (b : Activation). b.node < length next.nodes) trace a explains.trace_of.1 among in
            let before : a.node < probe = omega (arith, within, other, node_count) in
            let member = All-contains (λ (b : Activation). IsTrue (is_kind_at is_failure next b.node) → IsMember next set b.node) trace a explains.from_set among
            (test_before graph name asked.node lag is_failure a.node before ∙ failure) in
            (member.0, member.1, sym (failure_same member.0) ∙ member.2));
        rules = λ node within. rules_same next graph later longer trace rest node
            (λ test. sym (test_before graph name asked.node lag test node within))
            (sym (edges_before graph name asked.node lag node within)) modes (now_longer ∙ sym now_later)
            (λ edge among. sym (rest_time edge.source (source_within node edge (subst (λ (es : List Edge). Contains es edge) (edges_before graph name asked.node lag node within) among))))
            (sym (rest_time node within)) (explains.rules node (omega (arith, within, node_count)));
        shows = shown_after graph log rest asked.to (all_shown graph log rest (record { alarms = alarm_back; silences = silence_back }));
      }

      -- the probe shows its alarm
      probe_shown : IsActivatedBefore trace probe lag asked.to
      probe_shown =
          let there : Contains later.events (Alarm asked.to probe) = Contains-push kept (Alarm asked.to probe) in
          let shown : ShowsAlarm next later trace probe asked.to = explains.shows there.0 (Alarm asked.to probe) (slice_get-contains later.events (Alarm asked.to probe) there) in
          subst (λ (l : Lag). IsActivatedBefore trace probe l asked.to) (lag_probe graph name asked.node lag) (shows_alarm_heard next later trace probe asked.to probe_heard shown)

      pub from_probed : IsProbedTrace asked bound set trace
      from_probed =
          let till = probe_shown.3 in
          record {
            explains = explained;
            time = probe_shown.0;
            active = same_time graph name asked.node lag valid later modes_in trace probe_shown.0 (explains.rules probe (omega (arith, node_count))) probe_shown.1
                (omega (arith, till, now_later));
            by_bound = omega (arith, till, upto);
            probe = probe_shown.1;
          }

    -- ---- from the continued log

    module _ (trace_of : IsTraceOf next trace) (is : IsProbedTrace asked bound set trace) where
      -- an activation is that of the probe, or one of the others
      activation_cases : (a : Activation) → Contains trace a → ((a.node ≡ probe) × (a.time ≡ is.time)) ⊎ Contains rest a
      activation_cases a among = ⊎_elim
          (λ same. inl (same, same_Some a.time is.time (sym (time_there trace trace_of.0 a among) ∙ ap (time_of trace) same ∙ is.probe)))
          (λ other. inr (Contains-filter (λ (b : Activation). not (b.node == probe)) trace among.0 a (slice_get-contains trace a among) (ap not (ne_eqb a.node probe other))))
          (cases_eq a.node probe)

      heard : ShowsOfNodes graph log rest
      heard = of_nodes graph log rest able.of (shown_before graph log rest asked.to is.explains.shows)

      alarm_on : (number time node : ℕ) → event_at log number ≡ Some (Alarm time node) → ShowsAlarm next later trace node time
      alarm_on number time node at =
          let shown = heard.alarms number time node at in
          let within = monitored_within graph node shown.0 in (
            monitored_before graph name asked.node lag node within ∙ shown.0,
            ⊎_elim (λ ignored. inl ignored)
                (λ active. inr (subst (λ (l : Lag). IsActivatedBefore trace node l time) (sym (lag_before graph name asked.node lag node within))
                (active.0, sym (rest_time node within) ∙ active.1, active.2, active.3)))
                shown.1,
          )

      silence_on : (number time node : ℕ) → silence_at graph log number node ≡ Some time → ShowsSilence next later trace node time
      silence_on number time node silent =
          let within = silent_within graph log number node time able.of silent in
          ⊎_elim (λ ignored. inl ignored)
          (λ quiet. inr (λ x before active.
          quiet x (ap (λ (l : Lag). x + l.least) (sym (lag_before graph name asked.node lag node within)) ∙ before) (active.0, rest_time node within ∙ active.1, active.2)))
          (heard.silences number time node silent)

      said_shown : (event : Event) → IsSaidBy graph log event → (index : ℕ) → Shows next (first_events later index) trace event
      said_shown (Alarm time node) said index = alarm_on said.0 time node said.1
      said_shown (Silent time node) said index = silence_on said.0 time node said.1
      said_shown (Sweep time) said index = absurd said
      said_shown (Tick time) said index = absurd said
      said_shown (Mode time mode) said index = tt

      probe_alarm : ShowsAlarm next later trace probe asked.to
      probe_alarm = (
        monitored_probe graph name asked.node lag,
        inr
            (subst (λ (l : Lag). IsActivatedBefore trace probe l asked.to) (sym (lag_probe graph name asked.node lag))
            (let till = is.by_bound in (is.time, is.probe, omega arith, omega (arith, till, upto)))),
      )

      event_shown : (index : ℕ) (event : Event) → slice_get later.events index ≡ Some event → Shows next (first_events later index) trace event
      event_shown index event at = ⊎_elim
          (λ own. said_shown event (All-contains (IsSaidBy graph log) kept event keeps.each own) index)
          (λ last. subst (Shows next (first_events later index) trace) last probe_alarm)
          (Contains-push_cases kept (Alarm asked.to probe) event (Contains-at later.events index event at))

      rules_on : (node : ℕ) → node < length next.nodes → KeepsRulesOf next later trace node
      rules_on node within = ⊎_elim
          (λ before. rules_same graph next longer later rest trace node
          (λ test. test_before graph name asked.node lag test node before)
          (edges_before graph name asked.node lag node before) (λ instant. sym (modes instant)) (now_later ∙ sym now_longer)
          (λ edge among. rest_time edge.source (source_within node edge among))
          (rest_time node before) (is.explains.rules node before))
          (λ from. subst (KeepsRulesOf next later trace) (let same : probe ≡ node = omega (arith, from, within, node_count) in same)
          (same_rules graph name asked.node lag valid later modes_in trace is.time is.active is.probe))
          (cases_lt node probe)

      pub to_probed : Explains next later set trace
      to_probed = record {
        trace_of = trace_of;
        by_now = All-from_members (λ a. a.time ≤ now_of later) trace (λ a among. ⊎_elim
            (λ own. let till = is.by_bound in omega (arith, own.1, till, upto, now_later))
            (λ other. let within = All-contains (λ (b : Activation). b.time ≤ now_of longer) rest a is.explains.by_now other in omega (arith, within, now_later, now_longer))
            (activation_cases a among));
        from_set = All-from_members (λ a. IsTrue (is_kind_at is_failure next a.node) → IsMember next set a.node) trace (λ a among failure. ⊎_elim
            (λ own. absurd (false≢true (sym (test_probe graph name asked.node lag is_failure) ∙ subst (λ (n : ℕ). IsTrue (is_kind_at is_failure next n)) own.0 failure)))
            (λ other.
            let before = All-contains (λ (b : Activation). b.node < probe) rest a is.explains.trace_of.1 other in
            let member = All-contains (λ (b : Activation). IsTrue (is_kind_at is_failure graph b.node) → IsMember graph set b.node) rest a is.explains.from_set other
            (sym (test_before graph name asked.node lag is_failure a.node before) ∙ failure) in
            (member.0, member.1, failure_same member.0 ∙ member.2))
            (activation_cases a among));
        rules = rules_on;
        shows = event_shown;
      }
