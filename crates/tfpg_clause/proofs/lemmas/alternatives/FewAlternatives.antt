-- How many alternatives a clause has at most.
use Rattle.std.proofs.Common.{◌≡◌, ℕ, ◌+◌, ◌<◌, ◌≤◌, List, [], ◌∷◌, ◌++◌, length, Bool, true, false, Option, Some, None, refl, arith, length-append}
use Rattle.std.specs.Prelude.{IfSome, map, filter_map, option_and_then, slice_get, ◌&&◌, ◌==◌, nat_le}
use Rattle.std.specs.Bool.{then_some}
use Rattle.std.specs.List.{list_all}
use Rattle.tfpg_base.specs.Choice.{each_of}
use Rattle.tfpg_base.specs.declared.constraint.Constraint.{Constraint}
use Rattle.tfpg_graph.specs.declared.edge.Edge.{Edge}
use Rattle.tfpg_graph.specs.Graph.{Tfpg, is_kind_at, is_or, is_and, edges_into}
use Rattle.tfpg_log.specs.Log.{Logbook}
use Rattle.tfpg_log.specs.declared.span.Span.{Span}
use Rattle.tfpg_log.specs.declared.span.Window.{Window}
use Rattle.tfpg_log.specs.Spans.{span_at, window_of, joint_of}
use Rattle.tfpg_evidence.specs.declared.clause_name.ClauseName.{ClauseName}
use Rattle.tfpg_evidence.specs.declared.clause_name.ClauseName.TheVariants.{OrMay, AndMay, OrMust, AndMust}
use Rattle.tfpg_clause.specs.Clauses.{Due}
use Rattle.tfpg_clause.specs.Clauses.{alternatives, outside_span, count_of, arrival, due_over, may_by, must_by, must_in, must_alternatives, alternatives_limit, dues_of}
use Rattle.tfpg_base.proofs.lemmas.lists.Choices.{length-each_of_map, IfSome-then_some, IfSome-option_and_then, IfSome-option_map}
use Rattle.tfpg_base.proofs.lemmas.lists.Passing.{length-filter_map}
use Rattle.tfpg_clause.proofs.lemmas.alternatives.Dues.{must_length}
use Rattle.tfpg_clause.proofs.lemmas.rules.RulesMet.{edge_into}

-- fewer alternatives than this
abbrev IsBelow : ℕ → List (List Constraint) → Type 0
IsBelow limit all = length all < limit

-- a clause with so few
abbrev HasFewer : ℕ → Option (List (List Constraint)) → Type 0
HasFewer limit clause = IfSome clause (IsBelow limit)

may_few : (log : Logbook) (limit : ℕ) (holds : Bool) (target : ℕ) (edges : List Edge) (number horizon : ℕ) → 2 + length edges < limit
    → HasFewer limit (may_by log holds target edges number horizon)
may_few log limit holds target edges number horizon few = by (span_at log number horizon)
  where
    by : (span : Option Span) → HasFewer limit
        (option_and_then (λ (s : Span). then_some holds (outside_span target s ++ filter_map (arrival log number horizon s) edges)) span)
    by None = tt
    by (Some s) =
        IfSome-then_some (IsBelow limit) holds (outside_span target s ++ filter_map (arrival log number horizon s) edges)
        (omega (
          arith,
          length-append (outside_span target s) (filter_map (arrival log number horizon s) edges),
          length-filter_map (arrival log number horizon s) edges,
          few,
        ))

must_few : (log : Logbook) (limit : ℕ) (holds : Bool) (target : ℕ) (edges : List Edge) (window : Option Window) (number horizon : ℕ)
    → length edges + length edges + 1 < limit
    → HasFewer limit (must_by holds target number window (dues_of log number horizon edges))
must_few log limit false target edges window number horizon few = tt
must_few log limit true target edges window number horizon few = by (each_of (map (due_over log number horizon) edges)) refl window
  where
    by : (all : Option (List Due)) → each_of (map (due_over log number horizon) edges) ≡ all → (w : Option Window)
        → HasFewer limit (option_and_then (λ (dues : List Due). option_and_then (λ (x : Window). must_in target number x dues) w) all)
    by None are w = tt
    by (Some dues) are None = tt
    by (Some dues) are (Some w) =
        let as_many : length dues ≡ length edges = length-each_of_map (due_over log number horizon) edges dues are in
        IfSome-then_some (IsBelow limit) ((w.first == number) && list_all (λ (due : Due). nat_le due.by w.hi) dues)
        (must_alternatives target w.hi dues) (omega (arith, must_length target w.hi dues, as_many, few))

module _ (graph : Tfpg) (log : Logbook) (maximum : ℕ) (within : (node : ℕ) → length (edges_into graph node) ≤ maximum) where
  -- the limit of the alternatives
  abbrev pub limit : ℕ
  limit = alternatives_limit maximum

  some_enter : (number : ℕ) (edge : Edge) → slice_get graph.edges number ≡ Some edge → 1 ≤ maximum
  some_enter number edge at = omega (arith, (edge_into graph number edge at).1, within edge.target)

  all_fewer : (name : ClauseName) → HasFewer limit (alternatives graph log name)
  all_fewer (OrMay node number horizon) =
      may_few log limit (is_kind_at is_or graph node) node (edges_into graph node) number horizon (omega (arith, within node))
  all_fewer (AndMay edge number horizon) =
      IfSome-option_and_then (IsBelow limit) (λ (e : Edge). may_by log (is_kind_at is_and graph e.target) e.target (e ∷ []) number horizon)
      (slice_get graph.edges edge)
      (λ e at. may_few log limit (is_kind_at is_and graph e.target) e.target (e ∷ []) number horizon (omega (arith, some_enter edge e at)))
  all_fewer (OrMust edge number horizon) =
      IfSome-option_and_then (IsBelow limit)
      (λ (e : Edge). must_by (is_kind_at is_or graph e.target) e.target number (window_of log e number horizon)
      (dues_of log number horizon (e ∷ []))) (slice_get graph.edges edge)
      (λ e at. must_few log limit (is_kind_at is_or graph e.target) e.target (e ∷ []) (window_of log e number horizon) number horizon
      (omega (arith, some_enter edge e at)))
  all_fewer (AndMust node number horizon) =
      must_few log limit (is_kind_at is_and graph node) node (edges_into graph node) (joint_of graph log node number horizon) number horizon
      (omega (arith, within node))

  -- A clause has fewer alternatives than twice the greatest number of edges into a node, and three.
  pub few_alternatives : (name : ClauseName) (count : ℕ) → count_of graph log name ≡ Some count → count < limit
  few_alternatives name count is = IfSome-option_map (λ n. n < limit) length (alternatives graph log name) count (all_fewer name) is
