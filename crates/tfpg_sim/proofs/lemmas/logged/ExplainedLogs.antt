-- The simulated trace explains the simulated log from the simulated set.
use Rattle.std.proofs.Common.{◌≡◌, ℕ, suc, ◌<◌, ◌≤◌, ⊎_elim, Bool, true, false, not, eqb, List, [], ◌∷◌, length, take, drop, fold, Contains, IsTrue, Option, Some, None, option_map, unwrap_or, refl, sym, ap, ◌∙◌, subst, arith}
use Rattle.std.proofs.lemmas.Bool.{cond_both, eqb-true}
use Rattle.std.proofs.lemmas.List.Elements.{All-contains, All-weaker}
use Rattle.tfpg_base.proofs.lemmas.lists.Elements.{Contains-head, Contains-tail, Contains-cons_cases, Contains-nil, All-from_members, AllPairs-cons, slice_get-contains}
use Rattle.tfpg_base.proofs.lemmas.lists.Ordered.{AllPairs-nil}
use Rattle.tfpg_base.proofs.lemmas.Sets.{Contains-with_member, with_member-keeps}
use Rattle.tfpg_base.proofs.lemmas.TraceTimes.{time_there}
use Rattle.tfpg_base.proofs.lemmas.lists.Cuts.{cut_at}
use Rattle.tfpg_base.specs.declared.activation.Activation.{Activation}
use Rattle.tfpg_base.specs.Lines.{lines_of}
use Rattle.tfpg_base.specs.Set.{with_member}
use Rattle.tfpg_base.specs.Trace.{time_of}
use Rattle.tfpg_graph.specs.declared.edge.Edge.{Edge}
use Rattle.tfpg_graph.specs.Graph.{Tfpg, is_kind_at, is_failure, is_active_in, edges_into, position_of_failure}
use Rattle.tfpg_graph.specs.Valid.{IsValid}
use Rattle.tfpg_log.specs.declared.event.Event.{Event}
use Rattle.tfpg_log.specs.declared.event.Event.TheVariants as event
use Rattle.tfpg_log.specs.Explains.{Explains, IsMember}
use Rattle.tfpg_log.specs.Log.{Logbook, now_of, mode_at, time_of_event}
use Rattle.tfpg_log.specs.LogOfLines.{log_of_events, log_of_lines}
use Rattle.tfpg_log.specs.Rules.{HasAge, IsDue, KeepsMay, KeepsMust}
use Rattle.tfpg_log.proofs.lemmas.events.Order.{AreEventsInOrder, last_upto, before_last}
use Rattle.tfpg_trace.proofs.lemmas.FailureModes.{stands_there, no_failure}
use Rattle.tfpg_sim.specs.declared.entry.Entry.{Entry}
use Rattle.tfpg_sim.specs.declared.entry.Entry.TheVariants.{Start, Mode, Sweep, Tick, Stop}
use Rattle.tfpg_sim.specs.declared.simulated.Simulated.{Simulated}
use Rattle.tfpg_log.specs.AcceptedLog.{AreAccepted}
use Rattle.tfpg_sim.specs.Draws.{delays, latenesses}
use Rattle.tfpg_sim.specs.Script.{time_so_far, time_of_entry}
use Rattle.tfpg_sim.specs.Simulated.{IsSimulationOf}
use Rattle.tfpg_sim.specs.SimulatedLog.{log_events, with_started}
use Rattle.tfpg_sim.specs.Simulation.{Arrives, IsFirst, script_log, start_of}
use Rattle.tfpg_sim.specs.inside.Entries.{IsScript}
use Rattle.tfpg_sim.proofs.lemmas.logged.AcceptedLines.{by_stop, its, log_there, lines_accepted}
use Rattle.tfpg_sim.proofs.lemmas.simulations.KeptRules.{keeps}
use Rattle.tfpg_sim.proofs.lemmas.logged.LoggedEvents.{AreLogged, logged}
use Rattle.tfpg_sim.proofs.lemmas.logged.PutAlarms.{MayStandInOrder, Precedes-times}
use Rattle.tfpg_sim.proofs.lemmas.scripts.SpelledScripts.{IsScript-spelled}
use Rattle.tfpg_sim.proofs.lemmas.scripts.ScriptOrder.{all_by_last}
use Rattle.tfpg_sim.proofs.lemmas.logged.ShownEvents.{shown}

-- ---- now

-- the times of events that may stand in order do not fall
times_in_order : (events : List Event) → MayStandInOrder events → AreEventsInOrder events
times_in_order [] order = AllPairs-nil (λ earlier later. time_of_event earlier ≤ time_of_event later)
times_in_order (first ∷ events) order =
    AllPairs-cons (λ earlier later. time_of_event earlier ≤ time_of_event later) first events (λ k d within. Precedes-times first _ (order.0 k d within)) (times_in_order events order.1)

-- ---- what the script starts

-- a start is a line of the script
start_there : (entries : List Entry) (node time : ℕ) → start_of entries node ≡ Some time → Contains entries (Start time node)
start_there [] node time is = absurd (let none : None ≡ Some time = is in cc)
start_there (Start when started ∷ entries) node time is =
    cond_both (eqb started node) (Some when) (start_of entries node) (λ o. o ≡ Some time → Contains (Start when started ∷ entries) (Start time node))
    (λ same at.
    let one : started ≡ node = eqb-true started node same in
    let two : when ≡ time = cc in
    subst (λ n. Contains (Start when started ∷ entries) (Start time n)) one (subst (λ t. Contains (Start when started ∷ entries) (Start t started)) two (Contains-head (Start when started) entries)))
    (λ _ rest. Contains-tail (Start when started) entries (Start time node) (start_there entries node time rest)) is
start_there (Mode when mode ∷ entries) node time is = Contains-tail (Mode when mode) entries (Start time node) (start_there entries node time is)
start_there (Sweep when ∷ entries) node time is = Contains-tail (Sweep when) entries (Start time node) (start_there entries node time is)
start_there (Tick when ∷ entries) node time is = Contains-tail (Tick when) entries (Start time node) (start_there entries node time is)
start_there (Stop when ∷ entries) node time is = Contains-tail (Stop when) entries (Start time node) (start_there entries node time is)

module _ (graph : Tfpg) (index : ℕ) where
  -- a line keeps the members
  kept_by : (entry : Entry) (set : List ℕ) → Contains set index → Contains (with_started graph set entry) index
  kept_by (Start time node) set member = by (position_of_failure graph node)
    where
      by : (o : Option ℕ) → Contains (unwrap_or (option_map (λ p. with_member p set) o) set) index
      by None = member
      by (Some p) = with_member-keeps p set index member
  kept_by (Mode time mode) set member = member
  kept_by (Sweep time) set member = member
  kept_by (Tick time) set member = member
  kept_by (Stop time) set member = member

  all_keep : (entries : List Entry) (set : List ℕ) → Contains set index → Contains (fold (with_started graph) set entries) index
  all_keep [] set member = member
  all_keep (entry ∷ entries) set member = all_keep entries (with_started graph set entry) (kept_by entry set member)

  -- what a line starts is a member
  started_member : (entries : List Entry) (set : List ℕ) (time node : ℕ) → position_of_failure graph node ≡ Some index → Contains entries (Start time node)
      → Contains (fold (with_started graph) set entries) index
  started_member [] set time node at member = absurd (Contains-nil (Start time node) member)
  started_member (entry ∷ entries) set time node at member =
      ⊎_elim
      (λ here. all_keep entries (with_started graph set entry) (subst (λ n. Contains (with_started graph set n) index) (sym here)
      (subst (λ o. Contains (unwrap_or (option_map (λ p. with_member p set) o) set) index) (sym at) (Contains-with_member index set))))
      (λ there. started_member entries (with_started graph set entry) time node at there) (Contains-cons_cases entry entries (Start time node) member)

-- ---- rules under the same modes

module _ (log other : Logbook) (alike : (x : ℕ) → mode_at log x ≡ mode_at other x) (trace : List Activation) where
  age_there : (edge : Edge) (instant age : ℕ) → HasAge log trace edge instant age → HasAge other trace edge instant age
  age_there edge instant age has = record {
    start = has.start;
    source = has.source;
    since = has.since;
    active_since = λ x after before. subst (λ mode. IsTrue (is_active_in edge mode)) (alike x) (has.active_since x after before);
  }

module _ (graph : Tfpg) (log other : Logbook) (alike : (x : ℕ) → mode_at log x ≡ mode_at other x) (trace : List Activation) (node instant : ℕ) where
  may_there : KeepsMay graph log trace node instant → KeepsMay graph other trace node instant
  may_there may = record {
    or_node = λ is at. let some = may.or_node is at in (some.0, some.1, age_there log other alike trace some.0 instant some.0.tmin some.2);
    and_node = λ is at.
        All-weaker (λ edge. HasAge log trace edge instant edge.tmin) (λ edge. HasAge other trace edge instant edge.tmin)
        (λ edge has. age_there log other alike trace edge instant edge.tmin has) (edges_into graph node) (may.and_node is at);
  }

  due_here : (edge : Edge) → IsDue other trace edge instant → IsDue log trace edge instant
  due_here edge due = (due.0, due.1, age_there other log (λ x. sym (alike x)) trace edge instant due.0 due.2)

  must_there : KeepsMust graph log trace node instant → KeepsMust graph other trace node instant
  must_there must = record {
    or_node = λ is edge member due. must.or_node is edge member (due_here edge due);
    and_node = λ is all. must.and_node is (All-weaker (λ edge. IsDue other trace edge instant) (λ edge. IsDue log trace edge instant) due_here (edges_into graph node) all);
  }

-- ---- the whole

module _ (graph : Tfpg) (script : List ℕ) (number : ℕ) (simulated : Simulated) (valid : IsValid graph) (is : IsSimulationOf graph script number simulated) where
  abbrev entries : List Entry
  entries = is.entries

  abbrev trace : List Activation
  trace = simulated.trace

  abbrev events : List Event
  events = log_events entries trace (latenesses graph number) (time_so_far entries)

  abbrev log : Logbook
  log = log_of_events events

  is_script : IsScript graph entries
  is_script = IsScript-spelled graph (lines_of script) entries is.right.begun

  logs : AreLogged graph entries trace (latenesses graph number) (length (latenesses graph number)) events
  logs = logged graph entries trace (latenesses graph number) is_script is.right.stops (length (latenesses graph number))

  -- each line of the log is accepted
  pub accepted : AreAccepted graph (lines_of simulated.log)
  accepted = subst (λ text. AreAccepted graph (lines_of text)) (sym is.log) (lines_accepted graph valid entries is_script trace number events logs)

  log_is : log_of_lines graph (lines_of simulated.log) ≡ log
  log_is = ap (λ text. log_of_lines graph (lines_of text)) is.log ∙ log_there graph valid entries is_script trace number events logs

  -- and the lines make the events of the definition
  pub events_are : (log_of_lines graph (lines_of simulated.log)).events ≡ events
  events_are = ap (λ (book : Logbook). book.events) log_is

  -- now is the stop
  stop_by_now : time_so_far entries ≤ now_of log
  stop_by_now =
      let tick : Event = event.Tick (time_so_far entries) in
      before_last 0 events logs.last.0 tick (times_in_order events logs.order) (slice_get-contains events tick logs.last)

  now_by_stop : now_of log ≤ time_so_far entries
  now_by_stop = last_upto events 0 (time_so_far entries) (omega arith) (λ k d within. by_stop graph valid entries is_script trace number events logs _ (logs.each k d within))

  -- a node is active by the stop
  active_by_stop : (node time : ℕ) → node < length graph.nodes → time_of trace node ≡ Some time → time ≤ time_so_far entries
  active_by_stop node time within at = by (is_kind_at is_failure graph node) refl
    where
      by : (b : Bool) → is_kind_at is_failure graph node ≡ b → time ≤ time_so_far entries
      by true failure =
          All-contains (λ entry. time_of_entry entry ≤ time_so_far entries) entries (Start time node) (all_by_last graph entries is_script)
          (start_there entries node time (sym (is.trace.failure_modes node failure) ∙ at))
      by false discrepancy =
          (subst (IsFirst (Arrives graph (script_log entries) (delays graph number) trace node) (time_so_far entries)) at
          (is.trace.discrepancies node within (ap not discrepancy))).0

  -- a failure mode in it is a member of the set
  started : (node time : ℕ) → time_of trace node ≡ Some time → IsTrue (is_kind_at is_failure graph node) → IsMember graph simulated.set node
  started node time at failure = by (position_of_failure graph node) refl
    where
      by : (o : Option ℕ) → position_of_failure graph node ≡ o → IsMember graph simulated.set node
      by None none = absurd (no_failure graph node none failure)
      by (Some index) there = (
        index,
        subst (λ set. Contains set index) (sym is.set)
            (started_member graph index entries [] time node there (start_there entries node time (sym (is.trace.failure_modes node failure) ∙ at))),
        stands_there graph index node there,
      )

  alike : (x : ℕ) → mode_at (script_log entries) x ≡ mode_at log x
  alike x = sym (logs.modes x)

  explains_log : Explains graph log simulated.set trace
  explains_log = record {
    trace_of = is.trace.trace_of;
    by_now = All-from_members (λ (a : Activation). a.time ≤ now_of log) trace (λ a member.
        let within = All-contains (λ (b : Activation). b.node < length graph.nodes) trace a is.trace.trace_of.1 member in
        let upto = active_by_stop a.node a.time within (time_there trace is.trace.trace_of.0 a member) in omega (arith, stop_by_now));
    from_set = All-from_members (λ (a : Activation). IsTrue (is_kind_at is_failure graph a.node) → IsMember graph simulated.set a.node) trace
        (λ a member failure. started a.node a.time (time_there trace is.trace.trace_of.0 a member) failure);
    rules = λ node within. record {
      may = λ instant upto. may_there graph (script_log entries) log alike trace node instant
          (keeps graph entries number trace valid is.trace node instant within (omega (arith, upto, now_by_stop))).0;
      must = λ instant upto. must_there graph (script_log entries) log alike trace node instant
          (keeps graph entries number trace valid is.trace node instant within (omega (arith, upto, now_by_stop))).1;
    };
    shows = λ index e at.
        let are = cut_at events index e at in
        shown graph valid entries is_script trace number events logs (take index events) (drop (suc index) events) e are
        (its graph valid entries is_script trace number events logs (take index events) (drop (suc index) events) e are);
  }

  -- The trace explains the log of the lines from the set.
  pub explained : Explains graph (log_of_lines graph (lines_of simulated.log)) simulated.set simulated.trace
  explained = subst (λ book. Explains graph book simulated.set trace) (sym log_is) explains_log
