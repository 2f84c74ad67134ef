-- Each clause has an alternative.
use Rattle.std.proofs.Common.{◌≡◌, ℕ, ◌<◌, List, [], ◌∷◌, ◌++◌, length, Bool, true, false, Option, Some, None, arith}
use Rattle.std.specs.Prelude.{IfSome, map, filter_map, option_and_then, slice_get, ◌&&◌, ◌==◌, nat_le}
use Rattle.std.specs.Bool.{then_some}
use Rattle.std.specs.List.{list_all}
use Rattle.tfpg_base.specs.Choice.{each_of}
use Rattle.tfpg_base.specs.declared.constraint.Constraint.{Constraint}
use Rattle.tfpg_graph.specs.declared.edge.Edge.{Edge}
use Rattle.tfpg_graph.specs.Graph.{Tfpg, is_kind_at, is_or, is_and, edges_into}
use Rattle.tfpg_log.specs.Log.{Logbook}
use Rattle.tfpg_log.specs.declared.span.Span.{Span}
use Rattle.tfpg_log.specs.declared.span.Window.{Window}
use Rattle.tfpg_log.specs.Spans.{span_at, window_of, joint_of}
use Rattle.tfpg_evidence.specs.declared.clause_name.ClauseName.{ClauseName}
use Rattle.tfpg_evidence.specs.declared.clause_name.ClauseName.TheVariants.{OrMay, AndMay, OrMust, AndMust}
use Rattle.tfpg_clause.specs.Clauses.{Due}
use Rattle.tfpg_base.proofs.lemmas.lists.Choices.{IfSome-then_some, IfSome-option_and_then, IfSome-option_map}
use Rattle.tfpg_clause.proofs.lemmas.alternatives.Dues.{must_length}
use Rattle.tfpg_clause.specs.Clauses.{alternatives, outside_span, count_of, arrival, due_over, may_by, must_by, must_in, must_alternatives, dues_of}

-- there is an alternative
abbrev IsNonEmpty : List (List Constraint) → Type 0
IsNonEmpty all = 0 < length all

-- a clause that has one
abbrev HasSome : Option (List (List Constraint)) → Type 0
HasSome clause = IfSome clause IsNonEmpty

may_some : (log : Logbook) (holds : Bool) (target : ℕ) (edges : List Edge) (number horizon : ℕ)
    → HasSome (may_by log holds target edges number horizon)
may_some log holds target edges number horizon = by (span_at log number horizon)
  where
    by : (span : Option Span) → HasSome
        (option_and_then (λ (s : Span). then_some holds (outside_span target s ++ filter_map (arrival log number horizon s) edges)) span)
    by None = tt
    by (Some s) = IfSome-then_some IsNonEmpty holds (outside_span target s ++ filter_map (arrival log number horizon s) edges) (omega arith)

must_some : (log : Logbook) (holds : Bool) (target : ℕ) (edges : List Edge) (window : Option Window) (number horizon : ℕ)
    → HasSome (must_by holds target number window (dues_of log number horizon edges))
must_some log false target edges window number horizon = tt
must_some log true target edges window number horizon = by (each_of (map (due_over log number horizon) edges)) window
  where
    by : (all : Option (List Due)) (w : Option Window)
        → HasSome (option_and_then (λ (dues : List Due). option_and_then (λ (x : Window). must_in target number x dues) w) all)
    by None w = tt
    by (Some dues) None = tt
    by (Some dues) (Some w) =
        IfSome-then_some IsNonEmpty ((w.first == number) && list_all (λ (due : Due). nat_le due.by w.hi) dues)
        (must_alternatives target w.hi dues)
        (omega (arith, must_length target w.hi dues))

alternatives_some : (graph : Tfpg) (log : Logbook) (name : ClauseName) → HasSome (alternatives graph log name)
alternatives_some graph log (OrMay node number horizon) =
    may_some log (is_kind_at is_or graph node) node (edges_into graph node) number horizon
alternatives_some graph log (AndMay edge number horizon) =
    IfSome-option_and_then IsNonEmpty (λ (e : Edge). may_by log (is_kind_at is_and graph e.target) e.target (e ∷ []) number horizon)
    (slice_get graph.edges edge)
    (λ e at. may_some log (is_kind_at is_and graph e.target) e.target (e ∷ []) number horizon)
alternatives_some graph log (OrMust edge number horizon) =
    IfSome-option_and_then IsNonEmpty
    (λ (e : Edge). must_by (is_kind_at is_or graph e.target) e.target number (window_of log e number horizon)
    (dues_of log number horizon (e ∷ []))) (slice_get graph.edges edge)
    (λ e at. must_some log (is_kind_at is_or graph e.target) e.target (e ∷ []) (window_of log e number horizon) number horizon)
alternatives_some graph log (AndMust node number horizon) =
    must_some log (is_kind_at is_and graph node) node (edges_into graph node) (joint_of graph log node number horizon) number horizon

-- A clause that is allowed has an alternative.
pub some_alternative : (graph : Tfpg) (log : Logbook) (name : ClauseName) (count : ℕ) → count_of graph log name ≡ Some count → 0 < count
some_alternative graph log name count is =
    IfSome-option_map (λ n. 0 < n) length (alternatives graph log name) count (alternatives_some graph log name) is
