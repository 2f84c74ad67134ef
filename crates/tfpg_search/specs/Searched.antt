-- What a call of a search adds and finds.
use Rattle.std.specs.Prelude.{◌≡◌, ◌⊎◌, ℕ, ◌≤◌, List, ◌∷◌, ◌++◌, Result, Ok, Err}
use Rattle.tfpg_base.specs.declared.no_memory.NoMemory.{NoMemory}
use Rattle.tfpg_graph.specs.Graph.{Tfpg}
use Rattle.tfpg_log.specs.Log.{Logbook, first_events}
use Rattle.tfpg_log.specs.Explains.{Explains}
use Rattle.tfpg_evidence.specs.declared.step.Step.{Step}
use Rattle.tfpg_evidence.specs.declared.step.Step.TheVariants.{Split, Cycle, Again}
use Rattle.tfpg_clause.specs.Case.{Case}
use Rattle.tfpg_clause.specs.Trees.{Judged, IsPartial, IsRefutation, split_count}
use Rattle.tfpg_clause.specs.Paths.{with_steps}
use Rattle.tfpg_search.specs.declared.found.Found.{Found}
use Rattle.tfpg_search.specs.declared.found.Found.TheVariants.{Shown, Closed, Spent}
use Rattle.tfpg_search.specs.Live.{IsLive, IsUnsettled, IsSimpleAfter, AllowsReuse, HasNoNameTwice}
use Rattle.tfpg_search.specs.SearchState.{SearchState, case_of_search}
use Rattle.tfpg_search.specs.Represents.{SearchRepresents}

-- After these steps a subtree is reused where one is reusable. Where none is, a split is live, and in a cycle no left side
-- stands twice.
abbrev pub IsSearchStep : Case → List Judged → Step → Type 0
IsSearchStep case earlier (Split name) = IsLive case earlier name × (AllowsReuse case earlier → ⊥)
IsSearchStep case earlier (Cycle reasons) = IsSimpleAfter case earlier reasons × (AllowsReuse case earlier → ⊥)
IsSearchStep case earlier Again = AllowsReuse case earlier

-- The steps are right after the earlier ones: each is one that a search makes, and no clause name stands twice on a path.
pub record AreSearchSteps (case : Case) (earlier : List Judged) (added : List Step) : Type 0 where
  pub each : (front : List Step) (step : Step) (back : List Step) → added ≡ front ++ step ∷ back →
      IsSearchStep case (with_steps earlier case.log front) step
  pub names : HasNoNameTwice case (with_steps earlier case.log added)

-- What was found, where these are the steps of all calls: a trace that explains the log from the set; that the steps are a
-- refutation; or that the budget was spent on splits in this call and the tree is unsettled. Unless the steps are a
-- refutation, the search represents all of them, and no subtree is reusable after them.
abbrev pub Finds : Case → ℕ → List Step → List Judged → SearchState → Found → Type 0
Finds case budget added steps search (Shown trace) =
    Explains case.graph case.log search.set trace × SearchRepresents case.graph case.log search steps
    × (AllowsReuse case steps → ⊥)
Finds case budget added steps search Closed = IsRefutation case steps
Finds case budget added steps search Spent =
    (split_count added ≡ budget) × IsUnsettled case steps × SearchRepresents case.graph case.log search steps
    × (AllowsReuse case steps → ⊥)

-- The same; and where memory ran out, the steps are right: a tree begins with them, or they are a refutation.
abbrev pub FindsOrNot : Case → ℕ → List Step → List Judged → SearchState → Result Found NoMemory → Type 0
FindsOrNot case budget added steps search (Ok found) = Finds case budget added steps search found
FindsOrNot case budget added steps search (Err no_memory) = IsPartial case steps ⊎ IsRefutation case steps

-- what a call of a search changes: the search, and the list of steps that it is given
pub record SearchCall : Type 0 where
  pub old : SearchState
  pub new : SearchState
  pub before : List Step
  pub after : List Step

-- the call that changes one search to another, and one list of steps to another
abbrev pub call_of : SearchState → SearchState → List Step → List Step → SearchCall
call_of old new before after = record { old = old; new = new; before = before; after = after }

-- A call with a budget: it appends steps to the list that it was given, at most as many splits as the budget, and for all
-- steps that the search represented before, they are right after those and it finds what it says.
pub record IsSearched (graph : Tfpg) (log : Logbook) (budget : ℕ) (call : SearchCall)
    (result : Result Found NoMemory) : Type 0 where
  pub added : List Step
  pub appended : call.after ≡ call.before ++ added
  pub within : split_count added ≤ budget
  pub right : (earlier : List Judged) → SearchRepresents graph (first_events log call.old.seen) call.old earlier →
      AreSearchSteps (case_of_search graph log call.old) earlier added
  pub found : (earlier : List Judged) → SearchRepresents graph (first_events log call.old.seen) call.old earlier →
      FindsOrNot (case_of_search graph log call.new) budget added (with_steps earlier log added) call.new result
