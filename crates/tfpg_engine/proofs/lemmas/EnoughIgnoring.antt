-- A budget that is enough is enough where monitors are ignored: the clauses of a log do not depend on what it ignores.
use Rattle.std.proofs.Common.{◌≡◌, ℕ, ◌+◌, ◌≤◌, Bool, cond, List, [], ◌∷◌, ◌++◌, max, Option, None, refl, sym, ◌∙◌, pos}
use Rattle.std.specs.Prelude.{nat_le, slice_get, map, filter_map, option_map, option_and_then}
use Rattle.std.specs.Bool.{then_some}
use Rattle.tfpg_base.specs.Bounds.{at_most, at_least, at_least_after}
use Rattle.tfpg_base.specs.Choice.{each_of}
use Rattle.tfpg_base.specs.declared.constraint.Constraint.{Constraint}
use Rattle.tfpg_graph.specs.declared.edge.Edge.{Edge}
use Rattle.tfpg_graph.specs.Graph.{Tfpg, is_kind_at, is_or, is_and, edges_into}
use Rattle.tfpg_log.specs.declared.span.Span.{Span}
use Rattle.tfpg_log.specs.declared.span.Window.{Window}
use Rattle.tfpg_log.specs.Log.{Logbook, ignoring, now_of}
use Rattle.tfpg_log.specs.Spans.{span_at, window_of, joint_of}
use Rattle.tfpg_log.proofs.lemmas.instants.SameModes.{same_span, same_window, same_joint}
use Rattle.tfpg_evidence.specs.declared.clause_name.ClauseName.{ClauseName}
use Rattle.tfpg_evidence.specs.declared.clause_name.ClauseName.TheVariants.{OrMay, AndMay, OrMust, AndMust}
use Rattle.tfpg_clause.specs.Clauses.{Due, alternatives, dues_of, may_by, must_by, must_in, outside_span}
use Rattle.tfpg_clause.specs.Order.{horizon_of}
use Rattle.tfpg_clause.proofs.lemmas.logs.StaysAllowed.{allowed_by_now}
use Rattle.tfpg_search.specs.Enough.{IsEnough, IsNameAt}

-- the may clause by the span and the windows of the edges
abbrev may_from : (Edge → Option Window) → Option Span → Bool → ℕ → List Edge → Option (List (List Constraint))
may_from windows span holds target edges =
    option_and_then
    (λ (s : Span).
    then_some holds
    (outside_span target s
    ++ filter_map
    (λ (edge : Edge).
    option_and_then
    (λ (window : Window).
    then_some (nat_le (window.lo + edge.tmin) s.hi)
    (at_least_after edge.target edge.source edge.tmin ∷ at_least edge.target (max s.lo (window.lo + edge.tmin)) ∷ at_most edge.target (pos s.hi) ∷ []))
    (windows edge)) edges)) span

-- the must clause by the windows of the edges
abbrev must_from : (Edge → Option Window) → Bool → ℕ → List Edge → Option Window → ℕ → Option (List (List Constraint))
must_from windows holds target edges window number =
    cond holds
    (option_and_then (λ (dues : List Due). option_and_then (λ (w : Window). must_in target number w dues) window)
    (each_of
    (map
    (λ (edge : Edge).
    option_and_then
    (λ (tmax : ℕ). option_map (λ (w : Window). record { source = edge.source; target = edge.target; tmax = tmax; by = w.lo + tmax }) (windows edge)) edge.tmax)
    edges)))
    None

module _ (graph : Tfpg) (log : Logbook) (few many : List ℕ) where
  abbrev one : Logbook
  one = ignoring log few

  abbrev other : Logbook
  other = ignoring log many

  module _ (number horizon : ℕ) (upto : horizon ≤ now_of log) where
    spans : span_at one number horizon ≡ span_at other number horizon
    spans = same_span one other (now_of log) (λ instant within. refl) number horizon upto upto upto

    windows : (edge : Edge) → window_of one edge number horizon ≡ window_of other edge number horizon
    windows edge = same_window one other (now_of log) (λ instant within. refl) number horizon upto upto upto edge

    joints : (node : ℕ) → joint_of graph one node number horizon ≡ joint_of graph other node number horizon
    joints node = same_joint one other (now_of log) (λ instant within. refl) number horizon upto upto upto graph node

    may_same : (holds : Bool) (target : ℕ) (edges : List Edge) → may_by one holds target edges number horizon ≡ may_by other holds target edges number horizon
    may_same holds target edges = λ i. may_from (λ edge. windows edge i) (spans i) holds target edges

    must_same : (holds : Bool) (target : ℕ) (edges : List Edge) (before after : Option Window) → before ≡ after
        → must_by holds target number before (dues_of one number horizon edges) ≡ must_by holds target number after (dues_of other number horizon edges)
    must_same holds target edges before after same = λ i. must_from (λ edge. windows edge i) holds target edges (same i) number

  -- At a horizon up to now each clause is the same.
  same_alternatives : (name : ClauseName) → horizon_of name ≤ now_of log → alternatives graph one name ≡ alternatives graph other name
  same_alternatives (OrMay node number horizon) upto = may_same number horizon upto (is_kind_at is_or graph node) node (edges_into graph node)
  same_alternatives (AndMay edge number horizon) upto = λ i.
      option_and_then (λ e. may_same number horizon upto (is_kind_at is_and graph e.target) e.target (e ∷ []) i) (slice_get graph.edges edge)
  same_alternatives (OrMust edge number horizon) upto = λ i.
      option_and_then
      (λ e. must_same number horizon upto (is_kind_at is_or graph e.target) e.target (e ∷ []) (window_of one e number horizon) (window_of other e number horizon) (windows number horizon upto e) i)
      (slice_get graph.edges edge)
  same_alternatives (AndMust node number horizon) upto =
      must_same number horizon upto (is_kind_at is_and graph node) node (edges_into graph node) (joint_of graph one node number horizon) (joint_of graph other node number horizon)
      (joints number horizon upto node)

  -- An allowed name stays allowed.
  name_stays : (name : ClauseName) → IsNameAt graph one name → IsNameAt graph other name
  name_stays name is = record {
    clause = is.clause;
    allowed = sym (same_alternatives name (allowed_by_now graph one name is.clause is.allowed)) ∙ is.allowed;
    horizon = record { event = is.horizon.event; accepted = is.horizon.accepted; at = is.horizon.at };
  }

-- A budget that is enough for a log is enough for the log that ignores these monitors.
pub enough_ignoring : (graph : Tfpg) (log : Logbook) (nodes : List ℕ) (budget : ℕ) → IsEnough graph log budget → IsEnough graph (ignoring log nodes) budget
enough_ignoring graph log nodes budget is = record {
  maximum = is.maximum;
  incoming = is.incoming;
  names = is.names;
  names_are = record {
    once = is.names_are.once;
    exact = λ name. (
      λ has. name_stays graph log log.ignored nodes name ((is.names_are.exact name).0 has),
      λ own. (is.names_are.exact name).1 (name_stays graph log nodes log.ignored name own),
    );
  };
  enough = is.enough;
}
