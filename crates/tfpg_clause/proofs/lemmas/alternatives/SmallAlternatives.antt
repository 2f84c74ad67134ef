-- Alternatives are small: each has at most three constraints, and they are on the nodes of the graph.
use Rattle.std.proofs.Common.{◌≡◌, ℕ, ◌+◌, ◌-◌, ◌<◌, List, [], ◌∷◌, ◌++◌, length, Bool, true, false, Option, Some, None, refl, subst, arith}
use Rattle.std.specs.Prelude.{All, map, filter_map, max, pos, ℤ, ◌-ℤ◌, nat_le, ◌==◌, ◌&&◌, option_map, option_and_then, slice_get}
use Rattle.std.specs.Bool.{then_some}
use Rattle.std.specs.List.{list_all}
use Rattle.std.proofs.lemmas.List.Elements.{All-nil, All-cons, All-append, All-map, All-weaker, All-contains, All-filter}
use Rattle.tfpg_base.specs.Choice.{each_of}
use Rattle.tfpg_base.specs.declared.constraint.Constraint.{Constraint}
use Rattle.tfpg_base.proofs.lemmas.lists.Passing.{Contains-filter_map_only}
use Rattle.tfpg_base.proofs.lemmas.lists.Choices.{Contains-each_of_only}
use Rattle.tfpg_base.proofs.lemmas.lists.Elements.{All-from_members, Contains-at}
use Rattle.tfpg_graph.specs.declared.edge.Edge.{Edge}
use Rattle.tfpg_graph.specs.Graph.{Tfpg, is_kind_at, is_or, is_and, edges_into}
use Rattle.tfpg_graph.specs.Valid.{IsValid, IsValidEdge}
use Rattle.tfpg_graph.proofs.lemmas.NodeAt.{kind_within}
use Rattle.tfpg_log.specs.Log.{Logbook}
use Rattle.tfpg_log.specs.declared.span.Span.{Span}
use Rattle.tfpg_log.specs.declared.span.Window.{Window}
use Rattle.tfpg_log.specs.Spans.{span_at, window_of, joint_of}
use Rattle.tfpg_evidence.specs.declared.clause_name.ClauseName.{ClauseName}
use Rattle.tfpg_evidence.specs.declared.clause_name.ClauseName.TheVariants.{OrMay, AndMay, OrMust, AndMust}
use Rattle.tfpg_clause.specs.Clauses.{Due}
use Rattle.tfpg_base.specs.Bounds.{at_most, at_least, at_most_after, at_least_after}
use Rattle.tfpg_clause.specs.Clauses.{IsOver, IsSmall, outside_span, arrival, due_over, starts_late, follows_in_time, latest_of, must_alternatives, may_by, must_in, must_by, alternatives, dues_of}
use Rattle.tfpg_clause.specs.inside.ClausesByKind.{and_may, or_must}

-- The edge is between two of so many nodes.
record Joins (nodes : ℕ) (edge : Edge) : Type 0 where
  source : edge.source < nodes
  target : edge.target < nodes

-- So are the source and the target of what is due.
record JoinsDue (nodes : ℕ) (due : Due) : Type 0 where
  source : due.source < nodes
  target : due.target < nodes

module _ (nodes : ℕ) where
  small_one : (c : Constraint) → IsOver nodes c → IsSmall nodes (c ∷ [])
  small_one c over = record { few = omega arith; over = All-cons (IsOver nodes) c [] over (All-nil (IsOver nodes)) }

  over_most : (node : ℕ) (bound : ℤ) → node < nodes → IsOver nodes (at_most node bound)
  over_most node bound within = record { left = omega arith; right = omega arith }

  over_least : (node least : ℕ) → node < nodes → IsOver nodes (at_least node least)
  over_least node least within = record { left = omega arith; right = omega arith }

  over_after : (node source bound : ℕ) → node < nodes → source < nodes → IsOver nodes (at_most_after node source bound)
  over_after node source bound target within = record { left = omega arith; right = omega arith }

  over_least_after : (node source least : ℕ) → node < nodes → source < nodes → IsOver nodes (at_least_after node source least)
  over_least_after node source least target within = record { left = omega arith; right = omega arith }

  small_outside : (node : ℕ) (span : Span) → node < nodes → All (IsSmall nodes) (outside_span node span)
  small_outside node span within =
      All-cons (IsSmall nodes) (at_most node (pos span.lo -ℤ pos 1) ∷ []) ((at_least node (span.hi + 1) ∷ []) ∷ [])
      (small_one (at_most node (pos span.lo -ℤ pos 1)) (over_most node (pos span.lo -ℤ pos 1) within))
      (All-cons (IsSmall nodes) (at_least node (span.hi + 1) ∷ []) []
      (small_one (at_least node (span.hi + 1)) (over_least node (span.hi + 1) within)) (All-nil (IsSmall nodes)))

  small_then : (b : Bool) (xs alternative : List Constraint) → then_some b xs ≡ Some alternative → IsSmall nodes xs
      → IsSmall nodes alternative
  small_then true xs alternative is small = let same : xs ≡ alternative = cc in subst (IsSmall nodes) same small
  small_then false xs alternative is small = cc

  small_arrival : (log : Logbook) (number horizon : ℕ) (span : Span) (edge : Edge) (alternative : List Constraint) → Joins nodes edge
      → arrival log number horizon span edge ≡ Some alternative
      → IsSmall nodes alternative
  small_arrival log number horizon span edge alternative joins is = by (window_of log edge number horizon) is
    where
      three : Window → List Constraint
      three window =
          at_least_after edge.target edge.source edge.tmin ∷ at_least edge.target
          (max span.lo (window.lo + edge.tmin)) ∷ at_most edge.target (pos span.hi) ∷ []

      all_three : (least : ℕ) → All (IsOver nodes)
          (at_least_after edge.target edge.source edge.tmin ∷ at_least edge.target least ∷ at_most edge.target (pos span.hi) ∷ [])
      all_three least =
          All-cons (IsOver nodes) (at_least_after edge.target edge.source edge.tmin)
          (at_least edge.target least ∷ at_most edge.target (pos span.hi) ∷ [])
          (over_least_after edge.target edge.source edge.tmin joins.target joins.source)
          (All-cons (IsOver nodes) (at_least edge.target least) (at_most edge.target (pos span.hi) ∷ [])
          (over_least edge.target least joins.target)
          (All-cons (IsOver nodes) (at_most edge.target (pos span.hi)) [] (over_most edge.target (pos span.hi) joins.target)
          (All-nil (IsOver nodes))))

      by : (o : Option Window) → option_and_then (λ (window : Window). then_some (nat_le (window.lo + edge.tmin) span.hi) (three window)) o
          ≡ Some alternative → IsSmall nodes alternative
      by None none = cc
      by (Some window) some =
          small_then (nat_le (window.lo + edge.tmin) span.hi) (three window) alternative some
          (record { few = omega arith; over = all_three (max span.lo (window.lo + edge.tmin)) })

  small_arrivals : (log : Logbook) (number horizon : ℕ) (span : Span) (edges : List Edge) → All (Joins nodes) edges
      → All (IsSmall nodes) (filter_map (arrival log number horizon span) edges)
  small_arrivals log number horizon span edges joins =
      All-from_members (IsSmall nodes) (filter_map (arrival log number horizon span) edges)
      (λ alternative there.
      let from = Contains-filter_map_only (arrival log number horizon span) edges alternative there in
      small_arrival log number horizon span from.0 alternative (All-contains (Joins nodes) edges from.0 joins from.1) from.2)

  abbrev AreSmall : List (List Constraint) → Type 0
  AreSmall clause = All (IsSmall nodes) clause

  small_may : (log : Logbook) (holds : Bool) (target : ℕ) (edges : List Edge) (number horizon : ℕ) (clause : List (List Constraint))
      → (holds ≡ true → target < nodes)
      → All (Joins nodes) edges → may_by log holds target edges number horizon ≡ Some clause → AreSmall clause
  small_may log false target edges number horizon clause within joins is = by (span_at log number horizon) is
    where
      by : (o : Option Span) → option_and_then
          (λ (span : Span). then_some false (outside_span target span ++ filter_map (arrival log number horizon span) edges)) o
          ≡ Some clause → AreSmall clause
      by None none = cc
      by (Some span) none = cc
  small_may log true target edges number horizon clause within joins is = by (span_at log number horizon) is
    where
      by : (o : Option Span) → option_and_then
          (λ (span : Span). then_some true (outside_span target span ++ filter_map (arrival log number horizon span) edges)) o ≡ Some clause
          → AreSmall clause
      by None none = cc
      by (Some span) some =
          let same : outside_span target span ++ filter_map (arrival log number horizon span) edges ≡ clause = cc in
          subst AreSmall same
          (All-append (IsSmall nodes) (outside_span target span) (filter_map (arrival log number horizon span) edges)
          (small_outside target span (within refl))
          (small_arrivals log number horizon span edges joins))

  joins_due : (log : Logbook) (number horizon : ℕ) (edge : Edge) (due : Due) → Joins nodes edge
      → due_over log number horizon edge ≡ Some due → JoinsDue nodes due
  joins_due log number horizon edge due joins is = by edge.tmax (window_of log edge number horizon) is
    where
      the_due : ℕ → Window → Due
      the_due t w = record { source = edge.source; target = edge.target; tmax = t; by = w.lo + t }

      by : (tmax : Option ℕ) (window : Option Window)
          → option_and_then (λ (t : ℕ). option_map (λ (w : Window). the_due t w) window) tmax ≡ Some due → JoinsDue nodes due
      by None window none = cc
      by (Some t) None none = cc
      by (Some t) (Some w) some =
          let same : the_due t w ≡ due = cc in subst (JoinsDue nodes) same (record { source = joins.source; target = joins.target })

  small_must_alternatives : (target hi : ℕ) (dues : List Due) → target < nodes → All (JoinsDue nodes) dues
      → AreSmall (must_alternatives target hi dues)
  small_must_alternatives target hi dues within joins =
      let last : List (List Constraint) = (at_most target (pos (latest_of dues)) ∷ []) ∷ [] in
      All-append (IsSmall nodes) (map (starts_late hi) dues ++ map follows_in_time dues) last
      (All-append (IsSmall nodes) (map (starts_late hi) dues) (map follows_in_time dues)
      (All-map (IsSmall nodes) (starts_late hi) dues
      (All-weaker (JoinsDue nodes) (λ due. IsSmall nodes (starts_late hi due))
      (λ due j. small_one (at_least due.source (hi - due.tmax + 1)) (over_least due.source (hi - due.tmax + 1) j.source))
      dues joins))
      (All-map (IsSmall nodes) follows_in_time dues
      (All-weaker (JoinsDue nodes) (λ due. IsSmall nodes (follows_in_time due))
      (λ due j. small_one (at_most_after due.target due.source due.tmax) (over_after due.target due.source due.tmax j.target j.source))
      dues joins)))
      (All-cons (IsSmall nodes) (at_most target (pos (latest_of dues)) ∷ []) []
      (small_one (at_most target (pos (latest_of dues))) (over_most target (pos (latest_of dues)) within))
      (All-nil (IsSmall nodes)))

  small_must : (log : Logbook) (holds : Bool) (target : ℕ) (edges : List Edge) (window : Option Window) (number horizon : ℕ)
      (clause : List (List Constraint)) → (holds ≡ true → target < nodes)
      → All (Joins nodes) edges → must_by holds target number window (dues_of log number horizon edges) ≡ Some clause → AreSmall clause
  small_must log false target edges window number horizon clause within joins is = cc
  small_must log true target edges None number horizon clause within joins is = none (each_of (map (due_over log number horizon) edges)) is
    where
      none : (o : Option (List Due))
          → option_and_then (λ (dues : List Due). option_and_then (λ (w : Window). must_in target number w dues) None) o ≡ Some clause
          → AreSmall clause
      none None is = cc
      none (Some dues) is = cc
  small_must log true target edges (Some window) number horizon clause within joins is =
      by (each_of (map (due_over log number horizon) edges)) refl is
    where
      inner : (dues : List Due) → All (JoinsDue nodes) dues → (b : Bool)
          → then_some b (must_alternatives target window.hi dues) ≡ Some clause → AreSmall clause
      inner dues all false is = cc
      inner dues all true some =
          let same : must_alternatives target window.hi dues ≡ clause = cc in
          subst AreSmall same (small_must_alternatives target window.hi dues (within refl) all)

      by : (o : Option (List Due)) → each_of (map (due_over log number horizon) edges) ≡ o
          → option_and_then (λ (dues : List Due). must_in target number window dues) o ≡ Some clause
          → AreSmall clause
      by None are is = cc
      by (Some dues) are some =
          inner dues
          (All-from_members (JoinsDue nodes) dues
          (λ due there.
          let from = Contains-each_of_only (due_over log number horizon) edges dues due are there in
          joins_due log number horizon from.0 due (All-contains (Joins nodes) edges from.0 joins from.1) from.2))
          ((window.first == number) && list_all (λ (due : Due). nat_le due.by window.hi) dues) some

module _ (graph : Tfpg) (valid : IsValid graph) where
  abbrev own : Edge → Type 0
  own edge = Joins (length graph.nodes) edge

  all_join : All own graph.edges
  all_join =
      All-weaker (IsValidEdge graph) own (λ edge is. record { source = is.source; target = is.target }) graph.edges valid.so_far.edges

  into_join : (node : ℕ) → All own (edges_into graph node)
  into_join node = All-filter (λ edge. edge.target == node) own graph.edges all_join

  one_joins : (edge : Edge) → own edge → All own (edge ∷ [])
  one_joins edge joins = All-cons own edge [] joins (All-nil own)

  at_edge : (number : ℕ) (clause : List (List Constraint)) (f : Edge → Option (List (List Constraint)))
      → ((edge : Edge) → own edge → f edge ≡ Some clause → AreSmall (length graph.nodes) clause)
      → option_and_then f (slice_get graph.edges number) ≡ Some clause → AreSmall (length graph.nodes) clause
  at_edge number clause f each is = by (slice_get graph.edges number) refl is
    where
      by : (o : Option Edge) → slice_get graph.edges number ≡ o → option_and_then f o ≡ Some clause → AreSmall (length graph.nodes) clause
      by None at is = cc
      by (Some edge) at some = each edge (All-contains own graph.edges edge all_join (Contains-at graph.edges number edge at)) some

  -- The alternatives of an allowed clause are small.
  pub small_clause : (log : Logbook) (name : ClauseName) (clause : List (List Constraint)) → alternatives graph log name ≡ Some clause
      → AreSmall (length graph.nodes) clause
  small_clause log (OrMay node number horizon) clause is =
      small_may (length graph.nodes) log (is_kind_at is_or graph node) node (edges_into graph node) number horizon clause
      (kind_within graph is_or node) (into_join node) is
  small_clause log (AndMay edge number horizon) clause is =
      at_edge edge clause (λ e. and_may graph log e number horizon)
      (λ e joins some. small_may (length graph.nodes) log (is_kind_at is_and graph e.target) e.target (e ∷ []) number horizon clause
      (λ holds. joins.target) (one_joins e joins) some) is
  small_clause log (OrMust edge number horizon) clause is =
      at_edge edge clause (λ e. or_must graph log e number horizon)
      (λ e joins some.
      small_must (length graph.nodes) log (is_kind_at is_or graph e.target) e.target (e ∷ [])
      (window_of log e number horizon) number horizon clause (λ holds. joins.target) (one_joins e joins) some)
      is
  small_clause log (AndMust node number horizon) clause is =
      small_must (length graph.nodes) log (is_kind_at is_and graph node) node (edges_into graph node)
      (joint_of graph log node number horizon) number horizon clause (kind_within graph is_and node)
      (into_join node) is
