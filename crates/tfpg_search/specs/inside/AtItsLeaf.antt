-- That the system of a search is that of a leaf of its path.
use Rattle.std.specs.Prelude.{◌≡◌, ℕ, List, [], ◌∷◌, ◌++◌, length, All}
use Rattle.tfpg_graph.specs.Graph.{Tfpg}
use Rattle.tfpg_graph.specs.Reach.{IsReach}
use Rattle.tfpg_log.specs.Log.{Logbook}
use Rattle.tfpg_clause.specs.Facts.{fact}
use Rattle.tfpg_clause.specs.inside.MarkedTrees.{stated_on}
use Rattle.tfpg_search.specs.SearchState.{SearchState, case_of_search}
use Rattle.tfpg_search.specs.inside.Leaf.{pick_reasons, IsStated}
use Rattle.tfpg_search.specs.inside.Picks.{IsAllowed, AreInRange, HasEntered}

-- Each alternative on the path was entered.
abbrev pub HasEnteredAll : SearchState → Type 0
HasEnteredAll search = length search.entered ≡ length search.path

-- the search once the next alternative on its path was entered, before its first pick
abbrev pub with_next_entered : SearchState → SearchState
with_next_entered search =
    let entered : List ℕ = search.entered ++ length (pick_reasons search.leaf) ∷ [] in
    record search { entered = entered; leaf = record search.leaf { entered = entered } }

-- The system of the search is that of a leaf of its path, at this log.
pub record IsAtItsLeaf (graph : Tfpg) (log : Logbook) (search : SearchState) : Type 0 where
  pub reach_is : IsReach graph search.set search.reach
  pub variables : length search.leaf.demands.bounds ≡ length graph.nodes
  pub allowed : All (IsAllowed graph log) search.path
  pub range : AreInRange search.path
  pub stated : IsStated (fact (case_of_search graph log search)) (stated_on (case_of_search graph log search) search.path)
      search.leaf
  pub picks : HasEntered graph log search.path search.entered search.leaf
