-- Whether times meet the must clause of a node in a window, edge by edge.
use Rattle.std.proofs.Common.{◌≡◌, ℕ, ◌<◌, ◌≤◌, Bool, true, ◌&&◌, eqb, List, [], ◌∷◌, get_or, Option, Some, None, refl, sym, ap, subst, ◌∙◌, inl, inr, arith, pos}
use Rattle.std.specs.Prelude.{All, Contains, IfSome, IsSomeAnd, map, option_and_then}
use Rattle.std.specs.Bool.{then_some}
use Rattle.std.specs.List.{list_all}
use Rattle.std.proofs.lemmas.Bool.{and_parts, and_from, eqb-true, eq-eqb, leb-true}
use Rattle.tfpg_base.specs.Choice.{each_of}
use Rattle.tfpg_base.specs.declared.constraint.Constraint.{Constraint}
use Rattle.tfpg_base.specs.Constraint.{Meets}
use Rattle.tfpg_base.proofs.lemmas.lists.Choices.{Contains-each_of_only, Contains-each_of, then_some-true, IsSomeAnd-from, IsSomeAnd-there}
use Rattle.tfpg_base.proofs.lemmas.lists.Elements.{list_all-each}
use Rattle.tfpg_log.specs.declared.span.Window.{Window}
use Rattle.tfpg_clause.specs.Clauses.{Due}
use Rattle.tfpg_base.specs.Bounds.{at_most}
use Rattle.tfpg_clause.specs.Clauses.{must_in, must_alternatives, starts_late, follows_in_time, latest_of, MeetsClause}
use Rattle.tfpg_clause.specs.inside.Alternatives.{latest_within}
use Rattle.tfpg_clause.specs.inside.FirstSpan.{MeetsIfAny, IsExcused}
use Rattle.tfpg_clause.proofs.lemmas.constraints.BoundsMet.{says_at_most}
use Rattle.tfpg_clause.proofs.lemmas.alternatives.Dues.{fits, within_opened}
use Rattle.tfpg_clause.proofs.lemmas.alternatives.MustAlternatives.{late_there, follows_there, alternative_cases}

module _ (f : ℕ → Option Due) (edges : List ℕ) (times : List ℕ) (node number : ℕ) (window : Window) where
  -- where there is one, the window begins with the span, and has room for what is due over each edge
  pub must_there : (all : List (List Constraint))
      → option_and_then (λ dues. must_in node number window dues) (each_of (map f edges)) ≡ Some all
      → (ds : List Due) × (each_of (map f edges) ≡ Some ds) × (window.first ≡ number) × (list_all (fits window.hi) ds ≡ true)
      × (must_alternatives node window.hi ds ≡ all)
  must_there all at = by (each_of (map f edges)) refl at
    where
      by : (dues : Option (List Due)) → each_of (map f edges) ≡ dues → option_and_then (λ ds. must_in node number window ds) dues ≡ Some all
          → (ds : List Due) × (each_of (map f edges) ≡ Some ds) × (window.first ≡ number) × (list_all (fits window.hi) ds ≡ true)
          × (must_alternatives node window.hi ds ≡ all)
      by None are at = absurd cc
      by (Some ds) are at =
          let parts =
          then_some-true (eqb window.first number && list_all (fits window.hi) ds) (must_alternatives node window.hi ds) all at in
          let both = and_parts (eqb window.first number) (list_all (fits window.hi) ds) parts.0 in
          (ds, are, eqb-true window.first number both.0, both.1, parts.1)

  -- The times meet it where over an edge what is due is excused, if the window has room for it.
  pub met_if_excused : (edge : ℕ) × Contains edges edge
      × IfSome (f edge) (λ (due : Due). due.by ≤ window.hi → IsExcused times window.hi due)
      → MeetsIfAny times (option_and_then (λ dues. must_in node number window dues) (each_of (map f edges)))
  met_if_excused excuse all at =
      let parts = must_there all at in
      let due = Contains-each_of f edges parts.0 excuse.0 parts.1 excuse.1 in
      let room : due.0.by ≤ window.hi = leb-true due.0.by window.hi (list_all-each (fits window.hi) parts.0 due.0 parts.3 due.1) in
      let excused : IsExcused times window.hi due.0 =
      subst (λ (o : Option Due). IfSome o (λ (d : Due). d.by ≤ window.hi → IsExcused times window.hi d)) due.2 excuse.2 room in
      subst (MeetsClause times) parts.4
      (elim excused [
        | inl late ↦ (starts_late window.hi due.0, late_there node window.hi parts.0 due.0 due.1, late)
        | inr soon ↦ (follows_in_time due.0, follows_there node window.hi parts.0 due.0 due.1, soon)
      ])

  module _ (latest : ℕ) (room : latest_within window.hi (each_of (map f edges)) ≡ Some latest) where
    -- The times meet it where it is excused by an edge;
    pub met_by_excuse : (edge : ℕ) × Contains edges edge × IsSomeAnd (f edge) (IsExcused times window.hi)
        → MeetsIfAny times (option_and_then (λ dues. must_in node number window dues) (each_of (map f edges)))
    met_by_excuse excuse all at =
        let parts = must_there all at in
        let one = IsSomeAnd-there (IsExcused times window.hi) (f excuse.0) excuse.2 in
        let due = Contains-each_of f edges parts.0 excuse.0 parts.1 excuse.1 in
        let same : one.0 ≡ due.0 = cc (one.1, due.2) in
        subst (MeetsClause times) parts.4
        (elim (subst (IsExcused times window.hi) same one.2) [
          | inl late ↦ (starts_late window.hi due.0, late_there node window.hi parts.0 due.0 due.1, late)
          | inr soon ↦ (follows_in_time due.0, follows_there node window.hi parts.0 due.0 due.1, soon)
        ])

    -- and only then, where the window begins with the span
    pub not_met : window.first ≡ number → latest < get_or times node 0
        → ((edge : ℕ) × Contains edges edge × IsSomeAnd (f edge) (IsExcused times window.hi) → ⊥)
        → MeetsIfAny times (option_and_then (λ dues. must_in node number window dues) (each_of (map f edges))) → ⊥
    not_met first late none meets =
        let own = within_opened window.hi latest (each_of (map f edges)) room in
        let test : (eqb window.first number && list_all (fits window.hi) own.0) ≡ true =
        and_from (eqb window.first number) (list_all (fits window.hi) own.0) (eq-eqb window.first number first) own.2 in
        let there : option_and_then (λ dues. must_in node number window dues) (each_of (map f edges))
        ≡ Some (must_alternatives node window.hi own.0) =
        ap (option_and_then (λ dues. must_in node number window dues)) own.1
        ∙ ap (λ (b : Bool). then_some b (must_alternatives node window.hi own.0)) test in
        let met = meets (must_alternatives node window.hi own.0) there in
        elim (alternative_cases node window.hi own.0 met.0 met.1) [
          | inl starts ↦ excused own.0 own.1 starts.0 starts.1 (inl (subst (All (Meets times)) (sym starts.2) met.2))
          | inr (inl follows) ↦ excused own.0 own.1 follows.0 follows.1 (inr (subst (All (Meets times)) (sym follows.2) met.2))
          | inr (inr same) ↦ (
              let all : All (Meets times) (at_most node (pos (latest_of own.0)) ∷ []) = subst (All (Meets times)) (sym same) met.2 in
              omega (arith, says_at_most times node (latest_of own.0) (all 0 (at_most node (pos 0)) (omega arith)), own.3, late)
              )
        ]
      where
        excused : (ds : List Due) → each_of (map f edges) ≡ Some ds → (due : Due) → Contains ds due → IsExcused times window.hi due → ⊥
        excused ds are due member by_due =
            let edge = Contains-each_of_only f edges ds due are member in
            none (edge.0, edge.1, IsSomeAnd-from (IsExcused times window.hi) (f edge.0) due edge.2 by_due)
