-- The propagation rules and the clauses: where a trace keeps the rules, its numbers meet each allowed clause, and where numbers
-- meet each allowed clause with the horizon now, their trace keeps the rules.
use Rattle.std.proofs.Common.{◌≡◌, ℕ, ◌<◌, ◌≤◌, Bool, true, false, eqb, List, [], ◌∷◌, length, Option, Some, refl, sym, ap, subst, ◌∙◌, arith}
use Rattle.std.specs.Prelude.{All, Contains, filter_map, slice_get, option_and_then, ◌++◌}
use Rattle.std.specs.Bool.{then_some}
use Rattle.std.specs.List.{list_all}
use Rattle.std.proofs.lemmas.Bool.{eqb-true, eq-eqb}
use Rattle.std.proofs.lemmas.List.Elements.{All-cons, All-nil, All-head, All-contains, All-filter, All-weaker, filter_passes}
use Rattle.std.proofs.lemmas.List.Sums.{list_all-from_AllPass}
use Rattle.std.proofs.lemmas.Option.{option_and_then_some}
use Rattle.tfpg_base.specs.declared.activation.Activation.{Activation}
use Rattle.tfpg_base.specs.declared.constraint.Constraint.{Constraint}
use Rattle.tfpg_base.specs.Trace.{time_of}
use Rattle.tfpg_base.proofs.lemmas.lists.Elements.{All-from_members, Contains-at, Contains-head, Contains-one}
use Rattle.tfpg_base.proofs.lemmas.lists.Choices.{then_some-true}
use Rattle.tfpg_base.proofs.lemmas.lists.Passing.{Contains-filter, Contains-filter_only}
use Rattle.tfpg_graph.specs.declared.edge.Edge.{Edge}
use Rattle.tfpg_graph.specs.Graph.{Tfpg, is_kind_at, is_or, is_and, edges_into}
use Rattle.tfpg_graph.specs.Valid.{IsValid, IsValidEdge}
use Rattle.tfpg_graph.proofs.lemmas.NodeAt.{kind_within}
use Rattle.tfpg_log.specs.declared.span.Span.{Span}
use Rattle.tfpg_log.specs.declared.span.Window.{Window}
use Rattle.tfpg_log.specs.Log.{Logbook, now_of, is_active_at}
use Rattle.tfpg_log.specs.Rules.{HasAge, IsDue, IsActive, KeepsRules}
use Rattle.tfpg_log.specs.Spans.{span_number, span_at, window_of, joint_of}
use Rattle.tfpg_log.proofs.lemmas.ages.WindowAges.{only_there}
use Rattle.tfpg_log.proofs.lemmas.instants.WindowInstants.{is_window, window_there, throughout}
use Rattle.tfpg_log.proofs.lemmas.instants.JointWindows as joint
use Rattle.tfpg_evidence.specs.declared.clause_name.ClauseName.{ClauseName}
use Rattle.tfpg_evidence.specs.declared.clause_name.ClauseName.TheVariants.{OrMay, AndMay, OrMust, AndMust}
use Rattle.tfpg_clause.specs.Clauses.{outside_span, arrival, may_by, must_by, alternatives, MeetsClause, dues_of}
use Rattle.tfpg_clause.specs.inside.ClausesByKind.{and_may, or_must}
use Rattle.tfpg_clause.specs.Order.{horizon_of}
use Rattle.tfpg_clause.proofs.lemmas.logs.StaysAllowed.{allowed_by_now, must_has_window}
use Rattle.tfpg_clause.proofs.lemmas.traces.TraceAgrees.{Agree}
use Rattle.tfpg_clause.proofs.lemmas.rules.MayClauses.{ArrivesBy, may_is_met, may_is_kept}
use Rattle.tfpg_clause.proofs.lemmas.rules.MustClauses.{InCommon, must_is_met, must_is_kept}

-- ---- windows that edges have in common

-- the window of one edge
pub edge_common : (log : Logbook) (edge : Edge) (number horizon : ℕ) (window : Window) → window_of log edge number horizon ≡ Some window
    → InCommon log (edge ∷ []) number horizon window
edge_common log edge number horizon window at =
    let run = (is_window log edge number horizon window at).run in
    record {
      in_order = run.in_order;
      in_range = run.in_range;
      of_each = λ other member.
          let same : edge ≡ other = Contains-one edge other member in
          (window, ap (λ e. window_of log e number horizon) (sym same) ∙ at, omega arith, omega arith);
      begins = λ later. (edge, Contains-head edge [], window, at, refl);
    }

-- the joint window of a node
pub joint_common : (graph : Tfpg) (log : Logbook) (node number horizon : ℕ) (window : Window)
    → joint_of graph log node number horizon ≡ Some window
    → InCommon log (edges_into graph node) number horizon window
joint_common graph log node number horizon window at =
    let run = (joint.is_joint graph log node number horizon window at).run in
    record {
      in_order = run.in_order;
      in_range = run.in_range;
      of_each = λ edge member. joint.of_each graph log node number horizon window at edge member;
      begins = λ later. joint.begins graph log node number horizon window at later;
    }

-- ---- nodes and edges of a valid graph

module _ (graph : Tfpg) (valid : IsValid graph) where
  -- The sources of the edges into a node are nodes of the graph;
  pub sources_within : (node : ℕ) → All (λ (edge : Edge). edge.source < length graph.nodes) (edges_into graph node)
  sources_within node =
      All-filter (λ (edge : Edge). eqb edge.target node) (λ (edge : Edge). edge.source < length graph.nodes) graph.edges
      (All-weaker (IsValidEdge graph) (λ (edge : Edge). edge.source < length graph.nodes)
      (λ edge is. is.source) graph.edges valid.so_far.edges)

  -- so is the source of any one edge.
  pub source_within : (k : ℕ) (edge : Edge) → slice_get graph.edges k ≡ Some edge
      → All (λ (e : Edge). e.source < length graph.nodes) (edge ∷ [])
  source_within k edge at =
      All-cons (λ (e : Edge). e.source < length graph.nodes) edge []
      (All-contains (IsValidEdge graph) graph.edges edge valid.so_far.edges (Contains-at graph.edges k edge at)).source (All-nil _)

-- the edges into a node enter it
pub targets_are : (graph : Tfpg) (node : ℕ) → All (λ (edge : Edge). edge.target ≡ node) (edges_into graph node)
targets_are graph node =
    All-weaker (λ (edge : Edge). eqb edge.target node ≡ true) (λ (edge : Edge). edge.target ≡ node)
    (λ edge is. eqb-true edge.target node is) (edges_into graph node)
    (filter_passes (λ (edge : Edge). eqb edge.target node) graph.edges)

own_target : (edge : Edge) → All (λ (e : Edge). e.target ≡ edge.target) (edge ∷ [])
own_target edge = All-cons (λ (e : Edge). e.target ≡ edge.target) edge [] refl (All-nil _)

-- an edge is one of those into its target
pub edge_into : (graph : Tfpg) (k : ℕ) (edge : Edge) → slice_get graph.edges k ≡ Some edge → Contains (edges_into graph edge.target) edge
edge_into graph k edge at =
    Contains-filter (λ (e : Edge). eqb e.target edge.target) graph.edges k edge at (eq-eqb edge.target edge.target refl)

-- There is a may clause only where its test holds;
pub may_holds : (log : Logbook) (holds : Bool) (target : ℕ) (edges : List Edge) (number horizon : ℕ) (clause : List (List Constraint))
    → may_by log holds target edges number horizon ≡ Some clause → holds ≡ true
may_holds log holds target edges number horizon clause allowed =
    option_and_then_some
    (λ (span : Span). then_some holds (outside_span target span ++ filter_map (arrival log number horizon span) edges))
    (span_at log number horizon) clause allowed
    (λ span at rest. (then_some-true holds (outside_span target span ++ filter_map (arrival log number horizon span) edges) clause rest).0)

-- and so of a must clause.
pub must_holds : (log : Logbook) (holds : Bool) (target : ℕ) (edges : List Edge) (window : Option Window) (number horizon : ℕ)
    (clause : List (List Constraint))
    → must_by holds target number window (dues_of log number horizon edges) ≡ Some clause → holds ≡ true
must_holds log true target edges window number horizon clause allowed = refl
must_holds log false target edges window number horizon clause allowed = absurd cc

module _ (graph : Tfpg) (log : Logbook) (trace : List Activation) (numbers : List ℕ) (valid : IsValid graph)
    (agree : Agree (length graph.nodes) (now_of log) trace numbers) where
  count : ℕ
  count = length graph.nodes

  module _ (rules : KeepsRules graph log trace) where
    or_may_met : (node number horizon : ℕ) (clause : List (List Constraint)) → horizon ≤ now_of log → is_kind_at is_or graph node ≡ true
        → may_by log (is_kind_at is_or graph node) node (edges_into graph node) number horizon ≡ Some clause → MeetsClause numbers clause
    or_may_met node number horizon clause upto or allowed =
        may_is_met log trace numbers (length graph.nodes) agree node (edges_into graph node) (targets_are graph node) number
        (is_kind_at is_or graph node) horizon clause
        (kind_within graph is_or node or) upto
        (λ instant by_now at. ((rules node (kind_within graph is_or node or)).may instant by_now).or_node or at) allowed

    and_may_met : (k : ℕ) (edge : Edge) (number horizon : ℕ) (clause : List (List Constraint)) → slice_get graph.edges k ≡ Some edge
        → horizon ≤ now_of log
        → is_kind_at is_and graph edge.target ≡ true
        → may_by log (is_kind_at is_and graph edge.target) edge.target (edge ∷ []) number horizon ≡ Some clause → MeetsClause numbers clause
    and_may_met k edge number horizon clause there upto and allowed =
        may_is_met log trace numbers (length graph.nodes) agree edge.target (edge ∷ []) (own_target edge) number
        (is_kind_at is_and graph edge.target) horizon clause
        (kind_within graph is_and edge.target and) upto
        (λ instant by_now at. (
          edge,
          Contains-head edge [],
          All-contains (λ e. HasAge log trace e instant e.tmin) (edges_into graph edge.target) edge
              (((rules edge.target (kind_within graph is_and edge.target and)).may instant by_now).and_node and at)
              (edge_into graph k edge there),
        ))
        allowed

    or_must_met : (k : ℕ) (edge : Edge) (number horizon : ℕ) (clause : List (List Constraint)) → slice_get graph.edges k ≡ Some edge
        → horizon ≤ now_of log
        → is_kind_at is_or graph edge.target ≡ true
        → must_by (is_kind_at is_or graph edge.target) edge.target number (window_of log edge number horizon)
        (dues_of log number horizon (edge ∷ [])) ≡ Some clause → MeetsClause numbers clause
    or_must_met k edge number horizon clause there upto or allowed =
        let window =
        must_has_window log (is_kind_at is_or graph edge.target) edge.target (edge ∷ [])
        (window_of log edge number horizon) number horizon clause allowed in
        must_is_met log trace numbers (length graph.nodes) agree edge.target (edge ∷ []) number horizon window.0
        (edge_common log edge number horizon window.0 window.1)
        (is_kind_at is_or graph edge.target) clause (kind_within graph is_or edge.target or) (source_within graph valid k edge there)
        (own_target edge) upto
        (λ instant by_now dues.
        ((rules edge.target (kind_within graph is_or edge.target or)).must instant by_now).or_node or edge (edge_into graph k edge there)
        (All-head (λ e. IsDue log trace e instant) edge [] dues))
        (ap (λ w. must_by (is_kind_at is_or graph edge.target) edge.target number w (dues_of log number horizon (edge ∷ []))) (sym window.1)
        ∙ allowed)

    and_must_met : (node number horizon : ℕ) (clause : List (List Constraint)) → horizon ≤ now_of log → is_kind_at is_and graph node ≡ true
        → must_by (is_kind_at is_and graph node) node number (joint_of graph log node number horizon)
        (dues_of log number horizon (edges_into graph node)) ≡ Some clause → MeetsClause numbers clause
    and_must_met node number horizon clause upto and allowed =
        let window =
        must_has_window log (is_kind_at is_and graph node) node (edges_into graph node)
        (joint_of graph log node number horizon) number horizon clause allowed in
        must_is_met log trace numbers (length graph.nodes) agree node (edges_into graph node) number horizon window.0
        (joint_common graph log node number horizon window.0 window.1)
        (is_kind_at is_and graph node) clause (kind_within graph is_and node and) (sources_within graph valid node)
        (targets_are graph node) upto
        (λ instant by_now dues. ((rules node (kind_within graph is_and node and)).must instant by_now).and_node and dues)
        (ap (λ w. must_by (is_kind_at is_and graph node) node number w (dues_of log number horizon (edges_into graph node))) (sym window.1)
        ∙ allowed)

    -- Where the trace keeps the rules, the numbers meet each allowed clause.
    pub clause_is_met : (name : ClauseName) (clause : List (List Constraint)) → alternatives graph log name ≡ Some clause
        → MeetsClause numbers clause
    clause_is_met (OrMay node number horizon) clause allowed =
        or_may_met node number horizon clause (allowed_by_now graph log (OrMay node number horizon) clause allowed)
        (may_holds log (is_kind_at is_or graph node) node (edges_into graph node) number horizon clause allowed) allowed
    clause_is_met (AndMay k number horizon) clause allowed =
        option_and_then_some (λ e. and_may graph log e number horizon) (slice_get graph.edges k) clause allowed
        (λ edge there rest.
        and_may_met k edge number horizon clause there (allowed_by_now graph log (AndMay k number horizon) clause allowed)
        (may_holds log (is_kind_at is_and graph edge.target) edge.target (edge ∷ []) number horizon clause rest) rest)
    clause_is_met (OrMust k number horizon) clause allowed =
        option_and_then_some (λ e. or_must graph log e number horizon) (slice_get graph.edges k) clause allowed
        (λ edge there rest.
        or_must_met k edge number horizon clause there (allowed_by_now graph log (OrMust k number horizon) clause allowed)
        (must_holds log (is_kind_at is_or graph edge.target) edge.target (edge ∷ [])
        (window_of log edge number horizon) number horizon clause rest) rest)
    clause_is_met (AndMust node number horizon) clause allowed =
        and_must_met node number horizon clause (allowed_by_now graph log (AndMust node number horizon) clause allowed)
        (must_holds log (is_kind_at is_and graph node) node (edges_into graph node)
        (joint_of graph log node number horizon) number horizon clause allowed) allowed

  -- the numbers meet each allowed clause with the horizon now
  abbrev pub MeetAll : Type 0
  MeetAll =
      (name : ClauseName) (clause : List (List Constraint)) → horizon_of name ≡ now_of log → alternatives graph log name ≡ Some clause
      → MeetsClause numbers clause

  module _ (met : MeetAll) where
    or_may_kept : (node instant : ℕ) → instant ≤ now_of log → is_kind_at is_or graph node ≡ true
        → ArrivesBy log trace numbers (length graph.nodes) agree node (edges_into graph node)
    or_may_kept node instant upto or =
        may_is_kept log trace numbers (length graph.nodes) agree (is_kind_at is_or graph node) node (edges_into graph node) or
        (targets_are graph node) (sources_within graph valid node)
        (λ number clause allowed. met (OrMay node number (now_of log)) clause refl allowed)

    and_may_kept : (node instant : ℕ) → instant ≤ now_of log → is_kind_at is_and graph node ≡ true → time_of trace node ≡ Some instant
        → (edge : Edge)
        → Contains (edges_into graph node) edge → HasAge log trace edge instant edge.tmin
    and_may_kept node instant upto and at edge member =
        let found = Contains-filter_only (λ (e : Edge). eqb e.target node) graph.edges edge member in
        let target : edge.target ≡ node = eqb-true edge.target node found.2 in
        let rule =
        may_is_kept log trace numbers (length graph.nodes) agree (is_kind_at is_and graph edge.target) edge.target (edge ∷ [])
        (ap (is_kind_at is_and graph) target ∙ and) (own_target edge)
        (source_within graph valid found.0 edge found.1)
        (λ number clause allowed.
        met (AndMay found.0 number (now_of log)) clause refl
        (ap (option_and_then (λ e. and_may graph log e number (now_of log))) found.1 ∙ allowed)) in
        let arrives = rule instant upto (ap (time_of trace) target ∙ at) in
        subst (λ (e : Edge). HasAge log trace e instant e.tmin) (sym (Contains-one edge arrives.0 arrives.1)) arrives.2

    or_must_kept : (node instant : ℕ) → instant ≤ now_of log → is_kind_at is_or graph node ≡ true → (edge : Edge)
        → Contains (edges_into graph node) edge
        → IsDue log trace edge instant → IsActive trace node instant
    or_must_kept node instant upto or edge member due =
        let found = Contains-filter_only (λ (e : Edge). eqb e.target node) graph.edges edge member in
        let target : edge.target ≡ node = eqb-true edge.target node found.2 in
        let own : is_kind_at is_or graph edge.target ≡ true = ap (is_kind_at is_or graph) target ∙ or in
        let window = window_there log edge instant (now_of log) upto (omega arith) (only_there log trace edge instant due.0 due.2).0 in
        let is = is_window log edge (span_number log instant) (now_of log) window.0 window.1 in
        let first : ℕ = window.0.first in
        let there : window_of log edge first (now_of log) ≡ Some window.0 =
        ap (λ n. window_of log edge n (now_of log)) is.first_span
        ∙ throughout log edge (span_number log instant) (now_of log) window.0.lo window.0 window.1 (omega arith) is.run.in_order in
        let active =
        must_is_kept log trace numbers (length graph.nodes) agree edge.target (edge ∷ []) first (now_of log) window.0
        (edge_common log edge first (now_of log) window.0 there)
        (is_kind_at is_or graph edge.target) instant own refl (kind_within graph is_or edge.target own) (own_target edge)
        (omega arith) window.2 window.3
        (λ clause allowed.
        met (OrMust found.0 first (now_of log)) clause refl
        (ap (option_and_then (λ e. or_must graph log e first (now_of log))) found.1
        ∙ ap (λ w. must_by (is_kind_at is_or graph edge.target) edge.target first w (dues_of log first (now_of log) (edge ∷ []))) there
        ∙ allowed))
        (All-cons (λ e. IsDue log trace e instant) edge [] due (All-nil _)) in
        subst (λ n. IsActive trace n instant) target active

    and_must_kept : (node instant : ℕ) → instant ≤ now_of log → is_kind_at is_and graph node ≡ true
        → All (λ edge. IsDue log trace edge instant) (edges_into graph node)
        → IsActive trace node instant
    and_must_kept node instant upto and dues =
        let allowed : list_all (λ edge. is_active_at log edge instant) (edges_into graph node) ≡ true =
        list_all-from_AllPass (λ edge. is_active_at log edge instant) (edges_into graph node)
        (All-weaker (λ edge. IsDue log trace edge instant) (λ edge. is_active_at log edge instant ≡ true)
        (λ edge due. (only_there log trace edge instant due.0 due.2).0) (edges_into graph node) dues) in
        let window = joint.joint_there graph log node instant (now_of log) upto (omega arith) allowed in
        let is = joint.is_joint graph log node (span_number log instant) (now_of log) window.0 window.1 in
        let first : ℕ = window.0.first in
        let there : joint_of graph log node first (now_of log) ≡ Some window.0 =
        ap (λ n. joint_of graph log node n (now_of log)) is.first_span
        ∙ joint.throughout graph log node (span_number log instant) (now_of log) window.0.lo window.0 window.1
        (omega arith) is.run.in_order in
        must_is_kept log trace numbers (length graph.nodes) agree node (edges_into graph node) first (now_of log) window.0
        (joint_common graph log node first (now_of log) window.0 there)
        (is_kind_at is_and graph node) instant and refl (kind_within graph is_and node and) (targets_are graph node)
        (omega arith) window.2 window.3
        (λ clause allowed.
        met (AndMust node first (now_of log)) clause refl
        (ap (λ w. must_by (is_kind_at is_and graph node) node first w (dues_of log first (now_of log) (edges_into graph node))) there
        ∙ allowed))
        dues

    -- Where the numbers meet each allowed clause with the horizon now, the trace keeps the rules.
    pub rules_are_kept : KeepsRules graph log trace
    rules_are_kept node within = record {
      may = λ instant upto. record {
        or_node = λ or at. or_may_kept node instant upto or instant upto at;
        and_node =
            λ and at. All-from_members (λ edge. HasAge log trace edge instant edge.tmin) (edges_into graph node)
            (and_may_kept node instant upto and at);
      };
      must = λ instant upto. record {
        or_node = λ or edge member due. or_must_kept node instant upto or edge member due;
        and_node = λ and dues. and_must_kept node instant upto and dues;
      };
    }
