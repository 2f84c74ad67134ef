-- What a new search shows.
use Rattle.std.proofs.Common.{◌≡◌, ℕ, ◌≤◌, List, [], ◌++◌, false, refl, sym, ap, subst, ◌∙◌}
use Rattle.std.specs.Prelude.{Ok, Result}
use Rattle.tfpg_base.specs.declared.no_memory.NoMemory.{NoMemory}
use Rattle.tfpg_graph.specs.Graph.{Tfpg}
use Rattle.tfpg_log.specs.Log.{Logbook, first_events}
use Rattle.tfpg_evidence.specs.declared.step.Step.{Step}
use Rattle.tfpg_clause.specs.Case.{Case, case_of}
use Rattle.tfpg_clause.specs.Trees.{split_count}
use Rattle.tfpg_search.specs.declared.found.Found.{Found}
use Rattle.tfpg_search.specs.declared.found.Found.TheVariants.{Shown, Closed, Spent}
use Rattle.tfpg_search.specs.Enough.{IsEnough}
use Rattle.tfpg_search.specs.SearchState.{SearchState}
use Rattle.tfpg_search.specs.Represents.{SearchRepresents, RepresentsSome}
use Rattle.tfpg_search.specs.Searched.{AreSearchSteps, Finds, IsSearched, call_of}
use Rattle.tfpg_clause.specs.Paths.{with_steps}
use Rattle.tfpg_whatif.specs.Outcomes.{HasOutcomeEvidence, is_unknown}
use Rattle.tfpg_whatif.specs.inside.Asking.{IsShown, outcome_by}

-- what was found is shown by its evidence
evidence_by : (case : Case) (budget : ℕ) (steps : List Step) (search : SearchState) (found : Found) → AreSearchSteps case [] steps
    → split_count steps ≤ budget → (IsEnough case.graph case.log budget → ◌≡◌ {A = Result Found NoMemory} (Ok found) (Ok Spent) → ⊥)
    → Finds case budget steps (with_steps [] case.log steps) search found → HasOutcomeEvidence case search.set budget (outcome_by found steps)
evidence_by case budget steps search (Shown trace) right within never finds = finds.0
evidence_by case budget steps search Closed right within never finds = (finds, within)
evidence_by case budget steps search Spent right within never finds =
    record { right = right; spent = finds.0; unsettled = finds.1; none_reusable = finds.3; not_enough = λ enough. never enough refl }

-- what was found and is not that the budget was spent, is not unknown
known_by : (found : Found) (steps : List Step) → (found ≡ Spent → ⊥) → is_unknown (outcome_by found steps) ≡ false
known_by (Shown trace) steps not_spent = refl
known_by Closed steps not_spent = refl
known_by Spent steps not_spent = absurd (not_spent refl)

module _ (graph : Tfpg) (log : Logbook) (search : SearchState) (unseen : search.seen ≡ 0) (new : (other : Logbook) → SearchRepresents graph (first_events other 0) search []) where
  -- a new search represents no steps
  represents_none : SearchRepresents graph (first_events log search.seen) search []
  represents_none = subst (λ (seen : ℕ). SearchRepresents graph (first_events log seen) search []) (sym unseen) (new log)

  pub represents_some : RepresentsSome graph log search
  represents_some = ([], represents_none)

  module _ (set reach : List ℕ) (budget : ℕ) (is_set : search.set ≡ set) (is_reach : search.reach ≡ reach) (after : SearchState) (same_set : after.set ≡ search.set) (same_reach : after.reach ≡ search.reach)
      (before steps : List Step) (none : before ≡ []) (found : Found) (searched : IsSearched graph log budget (call_of search after before steps) (Ok found))
      (never : IsEnough graph log budget → ◌≡◌ {A = Result Found NoMemory} (Ok found) (Ok Spent) → ⊥) where
    all_added : searched.added ≡ steps
    all_added = sym (searched.appended ∙ ap (λ (front : List Step). front ++ searched.added) none)

    evidence_added : HasOutcomeEvidence (case_of graph log after.reach) after.set budget (outcome_by found searched.added)
    evidence_added = evidence_by (case_of graph log after.reach) budget searched.added after found
        (subst (λ (nodes : List ℕ). AreSearchSteps (case_of graph log nodes) [] searched.added) (sym same_reach) (searched.right [] represents_none)) searched.within never (searched.found [] represents_none)

    evidence : HasOutcomeEvidence (case_of graph log reach) set budget (outcome_by found steps)
    evidence = subst (λ (all : List Step). HasOutcomeEvidence (case_of graph log reach) set budget (outcome_by found all)) all_added
        (subst (λ (nodes : List ℕ). HasOutcomeEvidence (case_of graph log nodes) set budget (outcome_by found searched.added)) (same_reach ∙ is_reach)
        (subst (λ (members : List ℕ). HasOutcomeEvidence (case_of graph log after.reach) members budget (outcome_by found searched.added)) (same_set ∙ is_set) evidence_added))

    -- A new search shows its outcome.
    pub is_shown : IsShown (case_of graph log reach) set budget (outcome_by found steps)
    is_shown = record {
      evidence = evidence;
      known = λ enough. known_by found steps (λ spent. never enough (ap Ok spent));
    }
