-- The clauses of a name, by what was found of it.
use Rattle.std.proofs.Common.{◌≡◌, ℕ, Bool, true, false, cond, nat_eq, List, [], ◌∷◌, ◌++◌, Option, Some, None, refl, sym, ap, ◌∙◌}
use Rattle.std.specs.Prelude.{map, filter_map, option_map, option_and_then}
use Rattle.std.specs.Bool.{then_some}
use Rattle.tfpg_base.specs.Choice.{each_of}
use Rattle.tfpg_base.specs.declared.constraint.Constraint.{Constraint}
use Rattle.tfpg_graph.specs.declared.edge.Edge.{Edge}
use Rattle.tfpg_graph.specs.Graph.{Tfpg, is_kind_at, is_or, is_and, incoming, edges_into}
use Rattle.tfpg_graph.specs.declared.kind.Kind.{Kind}
use Rattle.tfpg_log.specs.declared.span.Span.{Span}
use Rattle.tfpg_log.specs.declared.span.Window.{Window}
use Rattle.tfpg_log.specs.Log.{Logbook}
use Rattle.tfpg_log.specs.Spans.{span_at, window_of, joint_of}
use Rattle.tfpg_clause.specs.Clauses.{Due}
use Rattle.tfpg_clause.specs.Clauses.{outside_span, arrival, due_over, must_in, may_by, must_by, dues_of}
use Rattle.tfpg_clause.specs.inside.ClausesByKind.{and_may, or_must, and_must}
use Rattle.tfpg_clause.specs.inside.Alternatives.{dues_over, target_of_kind}
use Rattle.tfpg_base.proofs.lemmas.lists.Numbered.{mapped_by_number}
use Rattle.tfpg_base.proofs.lemmas.lists.Choices.{then_some-true}

module _ (log : Logbook) (holds : Bool) (target : ℕ) (edges : List Edge) (number horizon : ℕ) (passes : holds ≡ true) where
  -- a may clause, where there is the span
  pub may_found : (span : Span) (arrivals : List (List Constraint)) → span_at log number horizon ≡ Some span
      → filter_map (arrival log number horizon span) edges ≡ arrivals
      → may_by log holds target edges number horizon ≡ Some (outside_span target span ++ arrivals)
  may_found span arrivals at are =
      ap (option_and_then (λ (s : Span). then_some holds (outside_span target s ++ filter_map (arrival log number horizon s) edges))) at
      ∙ (λ i. then_some (passes i) (outside_span target span ++ are i))

  -- a must clause, where there is the window
  pub must_found : (window : Option Window) (w : Window) → window ≡ Some w
      → must_by holds target number window (dues_of log number horizon edges)
      ≡ option_and_then (λ dues. must_in target number w dues) (each_of (map (due_over log number horizon) edges))
  must_found window w at = λ i.
      cond (passes i)
      (option_and_then (λ (dues : List Due). option_and_then (λ (x : Window). must_in target number x dues) (at i))
      (each_of (map (due_over log number horizon) edges))) None

module _ (graph : Tfpg) (log : Logbook) (node number horizon : ℕ) where
  -- what is due at an AND node by the numbers of its edges
  pub and_must_found : (window : Window) → is_kind_at is_and graph node ≡ true → joint_of graph log node number horizon ≡ Some window
      → and_must graph log node number horizon
      ≡ option_and_then (λ dues. must_in node number window dues) (dues_over graph log number horizon (incoming graph node))
  and_must_found window and at =
      must_found log (is_kind_at is_and graph node) node (edges_into graph node) number horizon and
      (joint_of graph log node number horizon) window at
      ∙ ap (λ (dues : List (Option Due)). option_and_then (λ ds. must_in node number window ds) (each_of dues))
      (mapped_by_number (λ edge. nat_eq edge.target node) (due_over log number horizon) graph.edges)

-- A node of another kind has no may clause,
pub no_may : (log : Logbook) (holds : Bool) (target : ℕ) (edges : List Edge) (number horizon : ℕ) → holds ≡ false
    → may_by log holds target edges number horizon ≡ None
no_may log holds target edges number horizon fails = by (span_at log number horizon)
  where
    by : (o : Option Span) → option_and_then
        (λ (span : Span). then_some holds (outside_span target span ++ filter_map (arrival log number horizon span) edges)) o ≡ None
    by None = refl
    by (Some span) = ap (λ (b : Bool). then_some b (outside_span target span ++ filter_map (arrival log number horizon span) edges)) fails

-- nor a must clause.
no_must : (log : Logbook) (holds : Bool) (target : ℕ) (edges : List Edge) (window : Option Window) (number horizon : ℕ) → holds ≡ false
    → must_by holds target number window (dues_of log number horizon edges) ≡ None
no_must log true target edges window number horizon fails = absurd cc
no_must log false target edges window number horizon fails = refl

-- A target of some kind is the target, and of that kind.
pub target_there : (test : Kind → Bool) (graph : Tfpg) (target : ℕ) (edge : Option Edge) → Some target ≡ target_of_kind test graph edge
    → (Some target ≡ option_map (λ (e : Edge). e.target) edge) × (is_kind_at test graph target ≡ true)
target_there test graph target None is = absurd cc
target_there test graph target (Some e) is =
    let parts = then_some-true (is_kind_at test graph e.target) e.target target (sym is) in
    (ap Some (sym parts.1), sym (ap (is_kind_at test graph) parts.1) ∙ parts.0)

-- What an edge has only where its target is of some kind, it has not where there is no target of that kind.
no_target : {X : Type 0} (test : Kind → Bool) (graph : Tfpg) (f : Edge → Option X)
    → ((e : Edge) → is_kind_at test graph e.target ≡ false → f e ≡ None) → (edge : Option Edge)
    → None ≡ target_of_kind test graph edge → option_and_then f edge ≡ None
no_target test graph f only None is = refl
no_target test graph f only (Some e) is = only e (by (is_kind_at test graph e.target) is)
  where
    by : (b : Bool) → None ≡ then_some b e.target → b ≡ false
    by true is = absurd cc
    by false is = refl

-- So an edge that enters no AND node has no may clause,
pub no_may_of_edge : (graph : Tfpg) (log : Logbook) (number horizon : ℕ) (edge : Option Edge) → None ≡ target_of_kind is_and graph edge
    → option_and_then (λ e. and_may graph log e number horizon) edge ≡ None
no_may_of_edge graph log number horizon =
    no_target is_and graph (λ e. and_may graph log e number horizon)
    (λ e other. no_may log (is_kind_at is_and graph e.target) e.target (e ∷ []) number horizon other)

-- and one that enters no OR node no must clause.
pub no_must_of_edge : (graph : Tfpg) (log : Logbook) (number horizon : ℕ) (edge : Option Edge) → None ≡ target_of_kind is_or graph edge
    → option_and_then (λ e. or_must graph log e number horizon) edge ≡ None
no_must_of_edge graph log number horizon =
    no_target is_or graph (λ e. or_must graph log e number horizon)
    (λ e other. no_must log (is_kind_at is_or graph e.target) e.target (e ∷ []) (window_of log e number horizon) number horizon other)

-- The must of one edge, by what was found of it.
pub or_must_found : (graph : Tfpg) (log : Logbook) (number horizon target : ℕ) (window : Window) (edge : Option Edge)
    → Some target ≡ option_map (λ (e : Edge). e.target) edge
    → is_kind_at is_or graph target ≡ true → Some window ≡ option_and_then (λ e. window_of log e number horizon) edge
    → option_and_then (λ e. or_must graph log e number horizon) edge
    ≡ option_and_then (λ dues. must_in target number window dues) (each_of (option_and_then (due_over log number horizon) edge ∷ []))
or_must_found graph log number horizon target window None own or there = absurd cc
or_must_found graph log number horizon target window (Some e) own or there =
    let same : target ≡ e.target = cc in
    let found =
    must_found log (is_kind_at is_or graph e.target) e.target (e ∷ []) number horizon (sym (ap (is_kind_at is_or graph) same) ∙ or)
    (window_of log e number horizon) window (sym there) in
    found ∙ ap (λ t. option_and_then (λ dues. must_in t number window dues) (each_of (due_over log number horizon e ∷ []))) (sym same)
