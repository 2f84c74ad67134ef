-- The facts and the events: numbers of a trace that explains a log from a set meet each fact, and where numbers meet each fact,
-- their trace shows each event and activates failure modes of the set only.
use Rattle.std.proofs.Common.{◌≡◌, ℕ, zero, suc, ◌+◌, ◌-◌, ◌<◌, ◌≤◌, Bool, true, false, not, ◌&&◌, cond, eqb, leb, ltb, List, length, get_or, take, Option, Some, None, refl, sym, ap, subst, ◌∙◌, inl, inr, arith, pos}
use Rattle.std.specs.Prelude.{is_some, is_none, slice_get, option_map, option_and_then}
use Rattle.std.specs.Bool.{then_some}
use Rattle.std.proofs.lemmas.Bool.{cases_lt, leb-true, le-leb, lt-ltb, ltb-true, eqb-true, eq-eqb, and_parts, and_from, not-true, both_ways}
use Rattle.std.proofs.lemmas.List.Elements.{All-contains, All-get_or}
use Rattle.std.proofs.lemmas.Option.{option_and_then_some, cond_some}
use Rattle.tfpg_base.specs.declared.limits.TheConstants.{NEVER}
use Rattle.tfpg_base.specs.declared.activation.Activation.{Activation}
use Rattle.tfpg_base.specs.declared.constraint.Constraint.{Constraint}
use Rattle.tfpg_base.specs.Trace.{time_of}
use Rattle.tfpg_base.proofs.lemmas.TraceTimes.{activation_there}
use Rattle.tfpg_base.proofs.lemmas.lists.Elements.{All-at}
use Rattle.tfpg_graph.specs.Graph.{Tfpg, is_monitored, lag_or_zero}
use Rattle.tfpg_graph.specs.Reach.{IsReach, Reaches, is_among}
use Rattle.tfpg_graph.specs.ZeroCycle.{HasZeroOrder}
use Rattle.tfpg_graph.proofs.lemmas.reach.Reaches.{among-from_Contains, Contains-from_among}
use Rattle.tfpg_graph.proofs.lemmas.NodeAt.{monitored_within}
use Rattle.tfpg_log.specs.declared.event.Event.{Event}
use Rattle.tfpg_log.specs.declared.event.Event.TheVariants.{Alarm, Silent, Sweep, Tick, Mode}
use Rattle.tfpg_log.specs.Log.{Logbook, now_of, first_events, time_of_event, alarm_among, alarm_of, is_ignored, interval_before, alarm_interval, inactive_until, silence_time, silence_at, quiet_at, IsLogOf, IsEventOf, IsOrdered}
use Rattle.tfpg_log.specs.Explains.{Explains, Shows, ShowsAll, ShowsSilence}
use Rattle.tfpg_log.specs.inside.ShownByLookUp.{KeepsInterval}
use Rattle.tfpg_log.specs.Rules.{IsActive}
use Rattle.tfpg_log.specs.declared.interval.Interval.{Interval}
use Rattle.tfpg_log.proofs.lemmas.causes.InReach.{trace_in_reach}
use Rattle.tfpg_log.proofs.lemmas.events.Order.{event_by_now}
use Rattle.tfpg_log.proofs.lemmas.events.ShownByLookUp.{shows_alarm_by_interval, shows_alarm_from_interval, shows_silence_by_instant, shows_silence_from_instant}
use Rattle.tfpg_log.proofs.lemmas.events.SilenceTimes.{quiet_by}
use Rattle.tfpg_evidence.specs.declared.reason.Reason.{Reason}
use Rattle.tfpg_evidence.specs.declared.reason.Reason.TheVariants.{Zero, Top, Unreached, From, Upto, Quiet, Pick}
use Rattle.tfpg_base.specs.Bounds.{at_most, at_least}
use Rattle.tfpg_base.specs.Constraint.{Meets}
use Rattle.tfpg_base.proofs.lemmas.lists.Choices.{then_some-true, option_map-some}
use Rattle.tfpg_clause.specs.Case.{case_of}
use Rattle.tfpg_clause.specs.Facts.{fact, from_alarm, upto_alarm}
use Rattle.tfpg_clause.specs.Cut.{AreNumbersOf}
use Rattle.tfpg_clause.proofs.lemmas.constraints.BoundsMet.{met_at_most, met_at_least, says_at_most, says_at_least}
use Rattle.tfpg_clause.proofs.lemmas.traces.TraceAgrees.{Agree, of_trace, active_from, active_only}

-- ---- silences

-- What an event that is a silence of a node says, where it is of the graph and shown.
pub record IsShownSilence (graph : Tfpg) (before : Logbook) (trace : List Activation) (node time : ℕ) (event : Event) : Type 0 where
  pub within : node < length graph.nodes
  pub shown : ShowsSilence graph before trace node time
  pub at : time_of_event event ≡ time

-- A silence of a node whose event is of the graph and shown is shown of that node.
pub silence_shown : (graph : Tfpg) (before : Logbook) (trace : List Activation) (event : Event) (node time : ℕ) → IsEventOf graph event
    → Shows graph before trace event
    → silence_time graph before event node ≡ Some time → IsShownSilence graph before trace node time event
silence_shown graph before trace (Alarm own alarmed) node time of shows is = absurd cc
silence_shown graph before trace (Silent own silent) node time of shows is =
    let parts = cond_some (eqb silent node) own time is in
    let same : silent ≡ node = eqb-true silent node parts.0 in
    record {
      within = subst (λ n. n < length graph.nodes) same (monitored_within graph silent of);
      shown =
          subst (λ (t : ℕ). ShowsSilence graph before trace node t) parts.1
          (subst (λ (n : ℕ). ShowsSilence graph before trace n own) same shows);
      at = parts.1;
    }
silence_shown graph before trace (Sweep own) node time of shows is =
    let parts = cond_some (is_monitored graph node && is_none (alarm_of before node)) own time is in
    let both = and_parts (is_monitored graph node) (is_none (alarm_of before node)) parts.0 in
    record {
      within = monitored_within graph node both.0;
      shown =
          subst (λ (t : ℕ). ShowsSilence graph before trace node t) parts.1
          (shows node both.0 (not-true (is_some (alarm_of before node)) both.1));
      at = parts.1;
    }
silence_shown graph before trace (Tick own) node time of shows is = absurd cc
silence_shown graph before trace (Mode own mode) node time of shows is = absurd cc

-- the silence of an event's number, by the event
pub silence_of : (graph : Tfpg) (log : Logbook) (index node : ℕ) (event : Event) → slice_get log.events index ≡ Some event
    → silence_at graph log (suc index) node ≡ silence_time graph (first_events log index) event node
silence_of graph log index node event at =
    let same : suc index - 1 ≡ index = omega arith in
    ap (option_and_then (λ e. silence_time graph (first_events log (suc index - 1)) e node)) at
    ∙ ap (λ (n : ℕ). silence_time graph (first_events log n) event node) same

module _ (graph : Tfpg) (log : Logbook) (set reach : List ℕ) (is_reach : IsReach graph set reach) (of : IsLogOf graph log)
    (ordered : IsOrdered log) where
  -- ---- facts are met

  module _ (trace : List Activation) (numbers : List ℕ) (order : HasZeroOrder graph) (explains : Explains graph log set trace)
      (are : AreNumbersOf graph (now_of log) trace numbers) where
    agree : Agree (length graph.nodes) (now_of log) trace numbers
    agree = of_trace graph (now_of log) trace numbers explains.by_now are

    at_most_never : (node : ℕ) → node < length graph.nodes → get_or numbers node 0 ≤ NEVER
    at_most_never node within =
        All-get_or (λ number. number ≤ NEVER) numbers node 0 (omega (arith, within, are.are_numbers.one_each)) are.are_numbers.in_range

    -- a node that is not reached has no time
    unreached_late : (node : ℕ) → node < length graph.nodes → is_among reach node ≡ false → now_of log < get_or numbers node 0
    unreached_late node within outside = by (time_of trace node) refl
      where
        by : (found : Option ℕ) → time_of trace node ≡ found → now_of log < get_or numbers node 0
        by None none = are.inactive node within none
        by (Some time) at =
            let reaches : Reaches graph set node =
            All-contains (λ activation. Reaches graph set activation.node) trace (record { node = node; time = time })
            (trace_in_reach graph log set trace order explains) (activation_there trace node time at) in
            absurd (both_ways (is_among reach node) outside (among-from_Contains reach node ((is_reach.exact node).1 reaches)))

    from_met : (index : ℕ) (event : Event) (stated : Constraint) → slice_get log.events index ≡ Some event
        → from_alarm graph log event ≡ Some stated → Meets numbers stated
    from_met index (Alarm time node) stated at is =
        let told =
        option_map-some (λ (interval : Interval). at_least node interval.earliest) (alarm_interval graph log node time) stated is in
        let shows = shows_alarm_by_interval graph log trace node time (explains.shows index (Alarm time node) at) told.0 told.1 in
        subst (Meets numbers) told.2
        (met_at_least numbers node told.0.earliest (omega (arith, agree.number_is node shows.0 shows.1, shows.2)))
    from_met index (Silent time node) stated at is = absurd cc
    from_met index (Sweep time) stated at is = absurd cc
    from_met index (Tick time) stated at is = absurd cc
    from_met index (Mode time mode) stated at is = absurd cc

    upto_met : (index : ℕ) (event : Event) (stated : Constraint) → slice_get log.events index ≡ Some event
        → upto_alarm graph log event ≡ Some stated → Meets numbers stated
    upto_met index (Alarm time node) stated at is =
        let told =
        option_map-some (λ (interval : Interval). at_most node (pos interval.latest)) (alarm_interval graph log node time) stated is in
        let shows = shows_alarm_by_interval graph log trace node time (explains.shows index (Alarm time node) at) told.0 told.1 in
        subst (Meets numbers) told.2 (met_at_most numbers node told.0.latest (omega (arith, agree.number_is node shows.0 shows.1, shows.3)))
    upto_met index (Silent time node) stated at is = absurd cc
    upto_met index (Sweep time) stated at is = absurd cc
    upto_met index (Tick time) stated at is = absurd cc
    upto_met index (Mode time mode) stated at is = absurd cc

    quiet_met : (index : ℕ) (event : Event) (node until : ℕ) → slice_get log.events index ≡ Some event
        → quiet_at graph log (suc index) node ≡ Some until
        → Meets numbers (at_least node (until + 1))
    quiet_met index event node until at is =
        let by = quiet_by graph log node (suc index) until is in
        let silent =
        silence_shown graph (first_events log index) trace event node by.time (All-at (IsEventOf graph) log.events index event of.own at)
        (explains.shows index event at)
        (sym (silence_of graph log index node event at) ∙ by.silent) in
        met_at_least numbers node (until + 1)
        (elim (cases_lt until (get_or numbers node 0)) [
          | inl later ↦ omega (arith, later)
          | inr early ↦
              absurd
              (shows_silence_by_instant graph log trace node by.time silent.shown until by.until_is
              (active_from (length graph.nodes) (now_of log) trace numbers agree node until silent.within
              (omega (arith, event_by_now log index event ordered at, silent.at, by.says.is)) early))
        ])

    -- The numbers meet each fact.
    pub fact_is_met : (reason : Reason) (stated : Constraint) → fact (case_of graph log reach) reason ≡ Some stated → Meets numbers stated
    fact_is_met (Zero node) stated is =
        let parts = then_some-true (ltb node (length graph.nodes)) (at_least node 0) stated is in
        subst (Meets numbers) parts.1 (met_at_least numbers node 0 (omega arith))
    fact_is_met (Top node) stated is =
        let parts = then_some-true (ltb node (length graph.nodes)) (at_most node (pos NEVER)) stated is in
        subst (Meets numbers) parts.1 (met_at_most numbers node NEVER (at_most_never node (ltb-true node (length graph.nodes) parts.0)))
    fact_is_met (Unreached node horizon) stated is =
        let parts =
        then_some-true (ltb node (length graph.nodes) && (leb horizon (now_of log) && not (is_among reach node)))
        (at_least node (horizon + 1)) stated is in
        let both = and_parts (ltb node (length graph.nodes)) (leb horizon (now_of log) && not (is_among reach node)) parts.0 in
        let rest = and_parts (leb horizon (now_of log)) (not (is_among reach node)) both.1 in
        let late = unreached_late node (ltb-true node (length graph.nodes) both.0) (not-true (is_among reach node) rest.1) in
        subst (Meets numbers) parts.1 (met_at_least numbers node (horizon + 1) (omega (arith, late, leb-true horizon (now_of log) rest.0)))
    fact_is_met (From zero) stated is = absurd cc
    fact_is_met (From (suc index)) stated is =
        option_and_then_some (from_alarm graph log) (slice_get log.events index) stated is
        (λ event at rest. from_met index event stated at rest)
    fact_is_met (Upto zero) stated is = absurd cc
    fact_is_met (Upto (suc index)) stated is =
        option_and_then_some (upto_alarm graph log) (slice_get log.events index) stated is
        (λ event at rest. upto_met index event stated at rest)
    fact_is_met (Quiet zero node) stated is = absurd cc
    fact_is_met (Quiet (suc index) node) stated is = by (slice_get log.events index) refl
      where
        by : (found : Option Event) → slice_get log.events index ≡ found → Meets numbers stated
        by None none = absurd (let gone : option_map (λ t. at_least node (t + 1)) (quiet_at graph log (suc index) node) ≡ None =
            ap
            (λ (e : Option Event). option_map (λ t. at_least node (t + 1))
            (option_and_then (inactive_until graph log node)
            (option_and_then (λ x. silence_time graph (first_events log (suc index - 1)) x node) e))) none in cc)
        by (Some event) at =
            let time = option_map-some (λ t. at_least node (t + 1)) (quiet_at graph log (suc index) node) stated is in
            subst (Meets numbers) time.2 (quiet_met index event node time.0 at time.1)
    fact_is_met (Pick split index) stated is = absurd cc

  -- ---- facts suffice

  module _ (trace : List Activation) (numbers : List ℕ) (agree : Agree (length graph.nodes) (now_of log) trace numbers)
      (met : (reason : Reason) (stated : Constraint) → fact (case_of graph log reach) reason ≡ Some stated → Meets numbers stated) where
    quiet_kept : (number node until : ℕ) → quiet_at graph log number node ≡ Some until → IsActive trace node until → ⊥
    quiet_kept number node until is active =
        let stated : fact (case_of graph log reach) (Quiet number node) ≡ Some (at_least node (until + 1)) =
        ap (option_map (λ t. at_least node (t + 1))) is in
        omega (
          arith,
          says_at_least numbers node (until + 1) (met (Quiet number node) (at_least node (until + 1)) stated),
          active_only (length graph.nodes) (now_of log) trace numbers agree node until active,
        )

    silence_kept : (index : ℕ) (event : Event) (node time : ℕ) → slice_get log.events index ≡ Some event
        → silence_time graph (first_events log index) event node ≡ Some time
        → ShowsSilence graph (first_events log index) trace node time
    silence_kept index event node time at is =
        shows_silence_from_instant graph log trace node time
        (λ until says. quiet_kept (suc index) node until
        (ap (option_and_then (inactive_until graph log node)) (silence_of graph log index node event at ∙ is) ∙ says))

    event_is_shown : (index : ℕ) (event : Event) → slice_get log.events index ≡ Some event → IsEventOf graph event
        → Shows graph (first_events log index) trace event
    event_is_shown index (Alarm time node) at own =
        let from : fact (case_of graph log reach) (From (suc index)) ≡ from_alarm graph log (Alarm time node) =
        ap (option_and_then (from_alarm graph log)) at in
        let upto : fact (case_of graph log reach) (Upto (suc index)) ≡ upto_alarm graph log (Alarm time node) =
        ap (option_and_then (upto_alarm graph log)) at in
        let told : KeepsInterval graph log trace node time = λ interval is. (
        let since = says_at_least numbers node interval.earliest (met (From (suc index)) (at_least node interval.earliest)
        (from ∙ ap (option_map (λ (i : Interval). at_least node i.earliest)) is)) in
        let till = says_at_most numbers node interval.latest (met (Upto (suc index)) (at_most node (pos interval.latest))
        (upto ∙ ap (option_map (λ (i : Interval). at_most node (pos i.latest))) is)) in
        let left = then_some-true (not (is_ignored log node)) (interval_before (lag_or_zero graph node) time) interval is in
        let by_alarm : interval.latest ≤ time = omega (arith, ap (λ (i : Interval). i.latest) left.1) in (
          get_or numbers node 0,
          agree.early node (monitored_within graph node own)
              (omega (arith, till, by_alarm, event_by_now log index (Alarm time node) ordered at)),
          since,
          till,
        )) in
        shows_alarm_from_interval graph log trace node time own told
    event_is_shown index (Silent time node) at own =
        silence_kept index (Silent time node) node time at (ap (λ (b : Bool). cond b (Some time) None) (eq-eqb node node refl))
    event_is_shown index (Sweep time) at own = λ node monitored none.
        silence_kept index (Sweep time) node time at
        (ap (λ (b : Bool). cond b (Some time) None)
        (and_from (is_monitored graph node) (is_none (alarm_among (take index log.events) node)) monitored (ap not none)))
    event_is_shown index (Tick time) at own = tt
    event_is_shown index (Mode time mode) at own = tt

    -- The trace shows each event.
    pub events_are_shown : ShowsAll graph log trace
    events_are_shown index event at = event_is_shown index event at (All-at (IsEventOf graph) log.events index event of.own at)

    -- and each node that it activates is reached
    pub active_is_reached : (node time : ℕ) → node < length graph.nodes → time_of trace node ≡ Some time → Reaches graph set node
    active_is_reached node time within at = by (is_among reach node) refl
      where
        by : (b : Bool) → is_among reach node ≡ b → Reaches graph set node
        by true among = (is_reach.exact node).0 (Contains-from_among reach node among)
        by false outside =
            let test : (ltb node (length graph.nodes) && (leb (now_of log) (now_of log) && not (is_among reach node))) ≡ true =
            and_from (ltb node (length graph.nodes)) (leb (now_of log) (now_of log) && not (is_among reach node))
            (lt-ltb node (length graph.nodes) within)
            (and_from (leb (now_of log) (now_of log)) (not (is_among reach node)) (le-leb (now_of log) (now_of log) (omega arith))
            (ap not outside)) in
            let stated : fact (case_of graph log reach) (Unreached node (now_of log)) ≡ Some (at_least node (now_of log + 1)) =
            ap (λ (b : Bool). then_some b (at_least node (now_of log + 1))) test in
            absurd (omega (
              arith,
              says_at_least numbers node (now_of log + 1) (met (Unreached node (now_of log)) (at_least node (now_of log + 1)) stated),
              agree.number_is node time at,
              agree.by_now node time at,
            ))
