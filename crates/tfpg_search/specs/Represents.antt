-- Which steps a search represents. These relations tie what it keeps to the steps of its calls, from one call to the next. A
-- reader of the promises need not look into them: `Search::new` says that a new search represents no steps, and
-- `Search::round` that the one after it represents those before and the new ones.
use Rattle.std.specs.Prelude.{◌≡◌, List, length, All}
use Rattle.tfpg_graph.specs.Graph.{Tfpg}
use Rattle.tfpg_log.specs.Log.{Logbook, first_events}
use Rattle.tfpg_clause.specs.Trees.{Judged}
use Rattle.tfpg_clause.specs.Paths.{HasPath}
use Rattle.tfpg_clause.specs.declared.path.PathSplit.{PathSplit}
use Rattle.tfpg_clause.specs.Order.{horizon_of}
use Rattle.tfpg_search.specs.Enough.{IsEventTime}
use Rattle.tfpg_search.specs.Live.{HasNoNameTwice}
use Rattle.tfpg_search.specs.SearchState.{SearchState, case_of_search}
use Rattle.tfpg_search.specs.Work.{AreBoundsAt}
use Rattle.tfpg_search.specs.inside.Leaf.{bounds_in}
use Rattle.tfpg_search.specs.inside.AtItsLeaf.{IsAtItsLeaf, HasEnteredAll}

-- The search represents these steps at this log: it has seen all its events, they lead to its path, all
-- alternatives on it were entered, the bounds in its system are those at this log, no clause name stands twice on a path, and
-- each horizon is the time of an event.
pub record SearchRepresents (graph : Tfpg) (log : Logbook) (search : SearchState) (steps : List Judged) : Type 0 where
  pub seen : search.seen ≡ length log.events
  pub leaf : HasPath (case_of_search graph log search) steps search.path
  pub names : HasNoNameTwice (case_of_search graph log search) steps
  pub horizons : All (λ (split : PathSplit). IsEventTime log (horizon_of split.name)) search.path
  pub system : IsAtItsLeaf graph log search
  pub all_entered : HasEnteredAll search
  pub bounds : AreBoundsAt (case_of_search graph log search) search.seen (bounds_in search.leaf)

-- It represents some steps, at the first events of this log.
abbrev pub RepresentsSome : Tfpg → Logbook → SearchState → Type 0
RepresentsSome graph log search =
    (steps : List Judged) × SearchRepresents graph (first_events log search.seen) search steps
