-- A must clause is met where the node is active by the beginning of the window.
use Rattle.std.proofs.Common.{◌≡◌, ℕ, ◌≤◌, Bool, true, false, ◌&&◌, eqb, List, [], ◌∷◌, get_or, Some, ap, subst, inl, inr, arith, pos}
use Rattle.std.specs.Prelude.{map}
use Rattle.std.specs.List.{list_all}
use Rattle.std.proofs.lemmas.Bool.{cases_lt}
use Rattle.std.proofs.lemmas.List.Elements.{All-cons, All-nil}
use Rattle.std.proofs.lemmas.Option.{option_and_then_some}
use Rattle.tfpg_base.specs.Bounds.{at_most}
use Rattle.tfpg_base.specs.Choice.{each_of}
use Rattle.tfpg_base.specs.Constraint.{Meets}
use Rattle.tfpg_base.specs.declared.constraint.Constraint.{Constraint}
use Rattle.tfpg_base.proofs.lemmas.lists.Choices.{Contains-each_of, then_some-true}
use Rattle.tfpg_graph.specs.declared.edge.Edge.{Edge}
use Rattle.tfpg_log.specs.declared.span.Window.{Window}
use Rattle.tfpg_log.specs.Log.{Logbook}
use Rattle.tfpg_clause.specs.Clauses.{Due, due_over, dues_of, must_in, must_by, must_alternatives, latest_of, MeetsClause}
use Rattle.tfpg_clause.proofs.lemmas.alternatives.Dues.{fits}
use Rattle.tfpg_clause.proofs.lemmas.alternatives.MustAlternatives.{last_there}
use Rattle.tfpg_clause.proofs.lemmas.constraints.BoundsMet.{met_at_most}
use Rattle.tfpg_clause.proofs.lemmas.rules.LastDue.{by_latest}
use Rattle.tfpg_clause.proofs.lemmas.rules.MustClauses.{InCommon, due_of}

module _ (log : Logbook) (times : List ℕ) (target number horizon : ℕ) (edges : List Edge) (window : Window)
    (common : InCommon log edges number horizon window)
    (early : get_or times target 0 ≤ window.lo) where
  -- what is due over some edge is so after the beginning of the window
  active_by_latest : (ds : List Due) → each_of (map (due_over log number horizon) edges) ≡ Some ds → get_or times target 0 ≤ latest_of ds
  active_by_latest ds are = elim (cases_lt 0 window.lo) [
    | inl later ↦ (
        let first = common.begins later in
        let due = Contains-each_of (due_over log number horizon) edges ds first.0 are first.1 in
        let of = due_of log number horizon first.0 due.0 due.2 in
        let same : first.2 ≡ of.window = cc (first.3, of.there) in
        let lo : first.2.lo ≡ of.window.lo = ap (λ (w : Window). w.lo) same in
        omega (arith, early, by_latest ds due.0 due.1, of.by, lo, first.4)
        )
    | inr zero ↦ omega (arith, early, zero)
  ]

  -- Where the target is active by the beginning of the window, the times meet the clause.
  pub met_when_active : (holds : Bool) (clause : List (List Constraint))
      → must_by holds target number (Some window) (dues_of log number horizon edges) ≡ Some clause → MeetsClause times clause
  met_when_active true clause allowed =
      option_and_then_some (λ (ds : List Due). must_in target number window ds)
      (each_of (map (due_over log number horizon) edges)) clause allowed
      (λ ds are rest.
      let parts =
      then_some-true (eqb window.first number && list_all (fits window.hi) ds) (must_alternatives target window.hi ds) clause rest in
      subst (MeetsClause times) parts.1 (
        at_most target (pos (latest_of ds)) ∷ [],
        last_there target window.hi ds,
        All-cons (Meets times) (at_most target (pos (latest_of ds))) [] (met_at_most times target (latest_of ds) (active_by_latest ds are))
            (All-nil (Meets times)),
      ))
  met_when_active false clause allowed = absurd cc
