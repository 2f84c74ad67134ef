-- Where times violate a clause whose horizon is now, they violate one first.
use Rattle.std.proofs.Common.{◌≡◌, ℕ, List, [], ◌∷◌, Option, Some, None, refl, sym, subst, ◌∙◌, ◌⊎◌, inl, inr}
use Rattle.std.specs.Prelude.{All, Contains}
use Rattle.std.proofs.lemmas.Bool.{cases_eq}
use Rattle.tfpg_base.specs.declared.constraint.Constraint.{Constraint}
use Rattle.tfpg_base.specs.Constraint.{Meets}
use Rattle.tfpg_base.proofs.lemmas.lists.Decided.{IsDecided, both_decided, same_decided, some_member_decided, all_members_decided}
use Rattle.tfpg_base.proofs.lemmas.lists.Elements.{Contains-nil, Contains-cons_cases}
use Rattle.tfpg_graph.specs.Graph.{Tfpg}
use Rattle.tfpg_log.specs.Log.{Logbook, now_of}
use Rattle.tfpg_evidence.specs.declared.clause_name.ClauseName.{ClauseName}
use Rattle.tfpg_clause.specs.Clauses.{alternatives, MeetsClause, Violates}
use Rattle.tfpg_clause.specs.Order.{horizon_of, ComesBefore, MeetsNamed, IsFirstViolated}
use Rattle.tfpg_clause.proofs.lemmas.first_violated.NameOrder.{not_itself, goes_through, one_comes_first}
use Rattle.tfpg_search.proofs.lemmas.budget.NamesListed.{allowed_listed}
use Rattle.tfpg_search.proofs.lemmas.solutions.SolvesDecided.{Meets-decided}

module _ (graph : Tfpg) (log : Logbook) (times : List ℕ) where
  -- whether times meet a clause is decided,
  clause_decided : (clause : List (List Constraint)) → IsDecided (MeetsClause times clause)
  clause_decided clause = some_member_decided (All (Meets times)) (all_members_decided (Meets times) (Meets-decided times)) clause

  -- so is whether they violate that of a name,
  violates_decided : (name : ClauseName) → IsDecided (Violates graph log times name)
  violates_decided name = by (alternatives graph log name) refl
    where
      by : (found : Option (List (List Constraint))) → alternatives graph log name ≡ found → IsDecided (Violates graph log times name)
      by None at = inr (λ violates. let none = violates.allowed in absurd cc)
      by (Some clause) at = elim (clause_decided clause) [
        | inl met ↦ inr (λ violates. violates.not_met (let same : clause ≡ violates.clause = (let is = violates.allowed in cc) in subst (MeetsClause times) same met))
        | inr not_met ↦ inl (record { clause = clause; allowed = at; not_met = not_met })
      ]

  -- and whether its horizon is now besides
  record ViolatesNow (name : ClauseName) : Type 0 where
    at_now : horizon_of name ≡ now_of log
    violates : Violates graph log times name

  violates_now_decided : (name : ClauseName) → IsDecided (ViolatesNow name)
  violates_now_decided name =
      same_decided ((horizon_of name ≡ now_of log) × Violates graph log times name) (ViolatesNow name)
      (λ both. record { at_now = both.0; violates = both.1 }) (λ is. (is.at_now, is.violates))
      (both_decided (horizon_of name ≡ now_of log) (Violates graph log times name) (cases_eq (horizon_of name) (now_of log)) (violates_decided name))

  -- the first of these names that is violated now
  record IsFirstOf (names : List ClauseName) (name : ClauseName) : Type 0 where
    now : ViolatesNow name
    first : (other : ClauseName) → Contains names other → ViolatesNow other → ComesBefore other name → ⊥

  -- a name that comes before the first of the others, or that first
  earlier_of : (name first : ClauseName) (names : List ClauseName) → ViolatesNow name → IsFirstOf names first → (found : ClauseName) × IsFirstOf (name ∷ names) found
  earlier_of name first names now is = elim (one_comes_first name first (now.at_now ∙ sym is.now.at_now)) [
    | inl same ↦ (
      first,
      record {
        now = is.now;
        first = λ other member also before. elim (Contains-cons_cases name names other member) [
          | inl here ↦ not_itself first (subst (λ n. ComesBefore n first) (sym here ∙ same) before)
          | inr later ↦ is.first other later also before
        ];
      },
    )
    | inr (inl before_first) ↦ (
      name,
      record {
        now = now;
        first = λ other member also before. elim (Contains-cons_cases name names other member) [
          | inl here ↦ not_itself name (subst (λ n. ComesBefore n name) (sym here) before)
          | inr later ↦ is.first other later also (goes_through other name first before before_first)
        ];
      },
    )
    | inr (inr after_first) ↦ (
      first,
      record {
        now = is.now;
        first = λ other member also before. elim (Contains-cons_cases name names other member) [
          | inl here ↦ not_itself first (goes_through first name first after_first (subst (λ n. ComesBefore n first) (sym here) before))
          | inr later ↦ is.first other later also before
        ];
      },
    )
  ]

  first_in : (names : List ClauseName) → ((name : ClauseName) × IsFirstOf names name) ⊎ ((name : ClauseName) → Contains names name → ViolatesNow name → ⊥)
  first_in [] = inr (λ name member now. Contains-nil name member)
  first_in (name ∷ names) = elim (violates_now_decided name) [
    | inl now ↦ elim (first_in names) [
      | inl found ↦ inl (earlier_of name found.0 names now found.1)
      | inr none ↦ inl (
        name,
        record {
          now = now;
          first = λ other member also before. elim (Contains-cons_cases name names other member) [
            | inl here ↦ not_itself name (subst (λ n. ComesBefore n name) (sym here) before)
            | inr later ↦ none other later also
          ];
        },
      )
    ]
    | inr not_now ↦ elim (first_in names) [
      | inl found ↦ inl (
        found.0,
        record {
          now = found.1.now;
          first = λ other member also before. elim (Contains-cons_cases name names other member) [
            | inl here ↦ not_now (subst ViolatesNow (sym here) also)
            | inr later ↦ found.1.first other later also before
          ];
        },
      )
      | inr none ↦ inr (λ other member now. elim (Contains-cons_cases name names other member) [
        | inl here ↦ not_now (subst ViolatesNow (sym here) now)
        | inr later ↦ none other later now
      ])
    ]
  ]

  met_unless_violated : (name : ClauseName) → (Violates graph log times name → ⊥) → MeetsNamed graph log times name
  met_unless_violated name never clause is = elim (clause_decided clause) [
    | inl met ↦ met
    | inr not_met ↦ absurd (never (record { clause = clause; allowed = is; not_met = not_met }))
  ]

  -- One is violated first.
  pub first_violated : (name : ClauseName) → horizon_of name ≡ now_of log → Violates graph log times name → (first : ClauseName) × IsFirstViolated graph log times first
  first_violated name at_now violates =
      let all = allowed_listed graph log in
      elim (first_in all.0) [
        | inl found ↦ (
          found.0,
          record {
            at_now = found.1.now.at_now;
            violated = found.1.now.violates;
            first = λ other also before. met_unless_violated other (λ broken.
                found.1.first other (all.1 other broken.clause broken.allowed) (record { at_now = also; violates = broken }) before);
          },
        )
        | inr none ↦ absurd (none name (all.1 name violates.clause violates.allowed) (record { at_now = at_now; violates = violates }))
      ]
