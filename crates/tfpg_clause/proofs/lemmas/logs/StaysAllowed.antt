-- What is allowed at a log stays allowed at each log that goes on from it.
use Rattle.std.proofs.Common.{not, ltb, ◌≡◌, ℕ, ◌+◌, ◌≤◌, Bool, true, false, ◌&&◌, cond, eqb, leb, List, [], ◌∷◌, ◌++◌, length, max, Option, Some, None, refl, sym, ap, ◌∙◌, arith, pos}
use Rattle.std.specs.Prelude.{nat_le, slice_get, map, filter_map, option_map, option_and_then}
use Rattle.std.specs.Bool.{then_some}
use Rattle.std.specs.List.{list_all}
use Rattle.std.proofs.lemmas.Bool.{leb-true, le-leb, eqb-true, and_parts}
use Rattle.std.proofs.lemmas.Option.{option_and_then_some}
use Rattle.tfpg_base.specs.Choice.{each_of}
use Rattle.tfpg_base.specs.declared.constraint.Constraint.{Constraint}
use Rattle.tfpg_base.proofs.lemmas.lists.Choices.{then_some-true, cond-some_first, option_map-some}
use Rattle.tfpg_graph.specs.declared.edge.Edge.{Edge}
use Rattle.tfpg_graph.specs.Graph.{Tfpg, is_kind_at, is_or, is_and, edges_into}
use Rattle.tfpg_log.specs.declared.span.Span.{Span}
use Rattle.tfpg_log.specs.declared.span.Window.{Window}
use Rattle.tfpg_log.specs.declared.event.Event.{Event}
use Rattle.tfpg_log.specs.Log.{Logbook, GoesOn, IsOrdered, now_of, event_at, ignoring, alarm_interval, quiet_at}
use Rattle.tfpg_log.specs.Spans.{span_at, window_of, joint_of}
use Rattle.tfpg_log.proofs.lemmas.events.PastKept.{spans_kept, windows_kept, joints_kept, now_kept, events_kept, quiets_kept}
use Rattle.tfpg_log.proofs.lemmas.events.NodesEvents.{event_within}
use Rattle.tfpg_log.proofs.lemmas.events.SilenceTimes.{quiet_by, silence_event}
use Rattle.tfpg_log.specs.declared.interval.Interval.{Interval}
use Rattle.tfpg_log.specs.declared.event.Event.TheVariants.{Alarm, Silent, Sweep, Tick, Mode}
use Rattle.tfpg_evidence.specs.declared.clause_name.ClauseName.{ClauseName}
use Rattle.tfpg_evidence.specs.declared.clause_name.ClauseName.TheVariants.{OrMay, AndMay, OrMust, AndMust}
use Rattle.tfpg_base.specs.Bounds.{at_most, at_least, at_least_after}
use Rattle.tfpg_clause.specs.Clauses.{outside_span, due_over, must_in, must_alternatives, may_by, must_by, alternatives, count_of, dues_of}
use Rattle.tfpg_clause.specs.inside.ClausesByKind.{and_may, or_must}
use Rattle.tfpg_clause.specs.Clauses.{Due}
use Rattle.tfpg_clause.proofs.lemmas.alternatives.Dues.{fits}
use Rattle.tfpg_clause.specs.Order.{horizon_of}
use Rattle.tfpg_clause.specs.Case.{case_of}
use Rattle.tfpg_clause.specs.Facts.{fact, from_alarm, upto_alarm}
use Rattle.tfpg_evidence.specs.declared.reason.Reason.{Reason}
use Rattle.tfpg_evidence.specs.declared.reason.Reason.TheVariants.{Zero, Top, Unreached, From, Upto, Quiet, Pick}
use Rattle.tfpg_graph.specs.Reach.{is_among}

-- the may clause by the span and the windows of the edges
abbrev may_from : (Edge → Option Window) → Option Span → Bool → ℕ → List Edge → Option (List (List Constraint))
may_from windows span holds target edges =
    option_and_then
    (λ (s : Span).
    then_some holds
    (outside_span target s
    ++ filter_map
    (λ (edge : Edge).
    option_and_then
    (λ (window : Window).
    then_some (nat_le (window.lo + edge.tmin) s.hi)
    (at_least_after edge.target edge.source edge.tmin ∷ at_least edge.target (max s.lo (window.lo + edge.tmin)) ∷ at_most edge.target
    (pos s.hi) ∷ []))
    (windows edge)) edges)) span

-- the must clause by the windows of the edges
abbrev must_from : (Edge → Option Window) → Bool → ℕ → List Edge → Option Window → ℕ → Option (List (List Constraint))
must_from windows holds target edges window number =
    cond holds
    (option_and_then (λ (dues : List Due). option_and_then (λ (w : Window). must_in target number w dues) window)
    (each_of
    (map
    (λ (edge : Edge).
    option_and_then
    (λ (tmax : ℕ). option_map (λ (w : Window). record { source = edge.source; target = edge.target; tmax = tmax; by = w.lo + tmax })
    (windows edge)) edge.tmax)
    edges)))
    None

module _ (graph : Tfpg) (earlier later : Logbook) (ordered : IsOrdered later) (goes_on : GoesOn earlier later) (number horizon : ℕ)
    (upto : horizon ≤ now_of earlier) where
  may_kept : (holds : Bool) (target : ℕ) (edges : List Edge)
      → may_by later holds target edges number horizon ≡ may_by earlier holds target edges number horizon
  may_kept holds target edges = λ i.
      may_from (λ edge. windows_kept earlier later ordered goes_on number horizon upto edge i)
      (spans_kept earlier later ordered goes_on number horizon upto i) holds target edges

  must_kept : (holds : Bool) (target : ℕ) (edges : List Edge) (before after : Option Window) → after ≡ before
      → must_by holds target number after (dues_of later number horizon edges)
      ≡ must_by holds target number before (dues_of earlier number horizon edges)
  must_kept holds target edges before after same =
      λ i. must_from (λ edge. windows_kept earlier later ordered goes_on number horizon upto edge i) holds target edges (same i) number

-- Where there is a span, the horizon is not after now;
pub span_by_now : (log : Logbook) (number horizon : ℕ) (span : Span) → span_at log number horizon ≡ Some span → horizon ≤ now_of log
span_by_now log number horizon span at = leb-true horizon (now_of log) (cond-some_first (leb horizon (now_of log)) _ span at).0

some_span : {X : Type 0} (log : Logbook) (number horizon : ℕ) (f : Span → Option X) (x : X)
    → option_and_then f (span_at log number horizon) ≡ Some x → horizon ≤ now_of log
some_span log number horizon f x at =
    option_and_then_some f (span_at log number horizon) x at (λ span there rest. span_by_now log number horizon span there)

-- so it is where there is a window of an edge,
pub window_by_now : (log : Logbook) (edge : Edge) (number horizon : ℕ) (window : Window) → window_of log edge number horizon ≡ Some window
    → horizon ≤ now_of log
window_by_now log edge number horizon window at = some_span log number horizon _ window at

-- and where there is a joint window.
pub joint_by_now : (graph : Tfpg) (log : Logbook) (node number horizon : ℕ) (window : Window)
    → joint_of graph log node number horizon ≡ Some window → horizon ≤ now_of log
joint_by_now graph log node number horizon window at = some_span log number horizon _ window at

may_by_now : (log : Logbook) (holds : Bool) (target : ℕ) (edges : List Edge) (number horizon : ℕ) (clause : List (List Constraint))
    → may_by log holds target edges number horizon ≡ Some clause → horizon ≤ now_of log
may_by_now log holds target edges number horizon clause at = some_span log number horizon _ clause at

-- there is a must clause only where there is the window, and where it begins with the span
pub must_has_window : (log : Logbook) (holds : Bool) (target : ℕ) (edges : List Edge) (window : Option Window) (number horizon : ℕ)
    (clause : List (List Constraint))
    → must_by holds target number window (dues_of log number horizon edges) ≡ Some clause
    → (w : Window) × (window ≡ Some w) × (w.first ≡ number)
must_has_window log true target edges window number horizon clause at =
    option_and_then_some _ (each_of (map (due_over log number horizon) edges)) clause at
    (λ dues are rest. option_and_then_some _ window clause rest (λ w there others. (w, there, begins_so w dues others)))
  where
    begins_so : (w : Window) (dues : List Due) → must_in target number w dues ≡ Some clause → w.first ≡ number
    begins_so w dues at =
        eqb-true w.first number
        (and_parts (eqb w.first number) (list_all (fits w.hi) dues)
        (then_some-true (eqb w.first number && list_all (fits w.hi) dues) (must_alternatives target w.hi dues) clause at).0).0
must_has_window log false target edges window number horizon clause at = absurd cc

-- an allowed name has a horizon up to now
pub allowed_by_now : (graph : Tfpg) (log : Logbook) (name : ClauseName) (clause : List (List Constraint))
    → alternatives graph log name ≡ Some clause → horizon_of name ≤ now_of log
allowed_by_now graph log (OrMay node number horizon) clause at =
    may_by_now log (is_kind_at is_or graph node) node (edges_into graph node) number horizon clause at
allowed_by_now graph log (AndMay edge number horizon) clause at =
    option_and_then_some (λ e. and_may graph log e number horizon) (slice_get graph.edges edge) clause at
    (λ e there rest. may_by_now log (is_kind_at is_and graph e.target) e.target (e ∷ []) number horizon clause rest)
allowed_by_now graph log (OrMust edge number horizon) clause at =
    option_and_then_some (λ e. or_must graph log e number horizon) (slice_get graph.edges edge) clause at
    (λ e there rest.
    let w =
    must_has_window log (is_kind_at is_or graph e.target) e.target (e ∷ []) (window_of log e number horizon) number horizon clause rest in
    window_by_now log e number horizon w.0 w.1)
allowed_by_now graph log (AndMust node number horizon) clause at =
    let w =
    must_has_window log (is_kind_at is_and graph node) node (edges_into graph node)
    (joint_of graph log node number horizon) number horizon clause at in
    joint_by_now graph log node number horizon w.0 w.1

-- an event that says up to which instant a node is not active is an event of the log
pub silence_within : (graph : Tfpg) (log : Logbook) (event node : ℕ) (stated : Constraint)
    → option_map (λ time. at_least node (time + 1)) (quiet_at graph log event node) ≡ Some stated
    → event ≤ length log.events
silence_within graph log event node stated at =
    let told = option_map-some (λ time. at_least node (time + 1)) (quiet_at graph log event node) stated at in
    let by = quiet_by graph log node event told.0 told.1 in
    let is = silence_event graph log node event by.time by.silent in
    event_within log is.event event is.there

-- what an alarm leaves depends on what a log ignores alone
from_same : (graph : Tfpg) (earlier later : Logbook) → later.ignored ≡ earlier.ignored → (event : Event)
    → from_alarm graph later event ≡ from_alarm graph earlier event
from_same graph earlier later same (Alarm time node) =
    ap
    (λ (nodes : List ℕ). option_map (λ (interval : Interval). at_least node interval.earliest)
    (alarm_interval graph (ignoring earlier nodes) node time)) same
from_same graph earlier later same (Silent time node) = refl
from_same graph earlier later same (Sweep time) = refl
from_same graph earlier later same (Tick time) = refl
from_same graph earlier later same (Mode time mode) = refl

upto_same : (graph : Tfpg) (earlier later : Logbook) → later.ignored ≡ earlier.ignored → (event : Event)
    → upto_alarm graph later event ≡ upto_alarm graph earlier event
upto_same graph earlier later same (Alarm time node) =
    ap
    (λ (nodes : List ℕ). option_map (λ (interval : Interval). at_most node (pos interval.latest))
    (alarm_interval graph (ignoring earlier nodes) node time)) same
upto_same graph earlier later same (Silent time node) = refl
upto_same graph earlier later same (Sweep time) = refl
upto_same graph earlier later same (Tick time) = refl
upto_same graph earlier later same (Mode time mode) = refl

module _ (graph : Tfpg) (earlier later : Logbook) (ordered : IsOrdered later) (goes_on : GoesOn earlier later) where
  -- At a horizon up to the old now each clause is the same.
  same_alternatives : (name : ClauseName) → horizon_of name ≤ now_of earlier
      → alternatives graph later name ≡ alternatives graph earlier name
  same_alternatives (OrMay node number horizon) upto =
      may_kept graph earlier later ordered goes_on number horizon upto (is_kind_at is_or graph node) node (edges_into graph node)
  same_alternatives (AndMay edge number horizon) upto = λ i.
      option_and_then
      (λ e. may_kept graph earlier later ordered goes_on number horizon upto (is_kind_at is_and graph e.target) e.target (e ∷ []) i)
      (slice_get graph.edges edge)
  same_alternatives (OrMust edge number horizon) upto = λ i.
      option_and_then
      (λ e.
      must_kept graph earlier later ordered goes_on number horizon upto (is_kind_at is_or graph e.target) e.target (e ∷ [])
      (window_of earlier e number horizon) (window_of later e number horizon)
      (windows_kept earlier later ordered goes_on number horizon upto e) i)
      (slice_get graph.edges edge)
  same_alternatives (AndMust node number horizon) upto =
      must_kept graph earlier later ordered goes_on number horizon upto (is_kind_at is_and graph node) node (edges_into graph node)
      (joint_of graph earlier node number horizon) (joint_of graph later node number horizon)
      (joints_kept earlier later ordered goes_on number horizon upto graph node)

  -- An allowed clause stays as it is.
  pub clause_stays : (name : ClauseName) (clause : List (List Constraint)) → alternatives graph earlier name ≡ Some clause
      → alternatives graph later name ≡ Some clause
  clause_stays name clause at = same_alternatives name (allowed_by_now graph earlier name clause at) ∙ at

  -- And a clause with alternatives has the same ones.
  pub alternatives_stay : (name : ClauseName) (count : ℕ) → count_of graph earlier name ≡ Some count
      → alternatives graph later name ≡ alternatives graph earlier name
  alternatives_stay name count counted =
      let there = option_map-some length (alternatives graph earlier name) count counted in
      clause_stays name there.0 there.1 ∙ sym there.1

  module _ (reach : List ℕ) where
    -- So does a fact.
    pub fact_stays : (reason : Reason) (stated : Constraint) → fact (case_of graph earlier reach) reason ≡ Some stated
        → fact (case_of graph later reach) reason ≡ Some stated
    fact_stays (Zero node) stated at = at
    fact_stays (Top node) stated at = at
    fact_stays (Unreached node horizon) stated at =
        let test =
        (then_some-true (ltb node (length graph.nodes) && (leb horizon (now_of earlier) && not (is_among reach node)))
        (at_least node (horizon + 1)) stated at).0 in
        let both = and_parts (ltb node (length graph.nodes)) (leb horizon (now_of earlier) && not (is_among reach node)) test in
        let before = (and_parts (leb horizon (now_of earlier)) (not (is_among reach node)) both.1).0 in
        let after : leb horizon (now_of later) ≡ true =
        le-leb horizon (now_of later) (omega (arith, leb-true horizon (now_of earlier) before, now_kept earlier later ordered goes_on)) in
        ap (λ (upto : Bool). then_some (ltb node (length graph.nodes) && (upto && not (is_among reach node))) (at_least node (horizon + 1)))
        (after ∙ sym before) ∙ at
    fact_stays (From event) stated at =
        option_and_then_some (from_alarm graph earlier) (event_at earlier event) stated at
        (λ e there rest. ap (option_and_then (from_alarm graph later)) (events_kept earlier later goes_on event e there)
        ∙ from_same graph earlier later goes_on.ignored e ∙ rest)
    fact_stays (Upto event) stated at =
        option_and_then_some (upto_alarm graph earlier) (event_at earlier event) stated at
        (λ e there rest. ap (option_and_then (upto_alarm graph later)) (events_kept earlier later goes_on event e there)
        ∙ upto_same graph earlier later goes_on.ignored e ∙ rest)
    fact_stays (Quiet event node) stated at =
        ap (option_map (λ time. at_least node (time + 1))) (silence_same event node (silence_within graph earlier event node stated at)) ∙ at
      where
        silence_same : (event node : ℕ) → event ≤ length earlier.events
            → quiet_at graph later event node ≡ quiet_at graph earlier event node
        silence_same event node within = quiets_kept graph earlier later goes_on event node within
    fact_stays (Pick split index) stated at = at
