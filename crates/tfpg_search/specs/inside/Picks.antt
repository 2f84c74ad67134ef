-- The picks of the system of a leaf: the constraints of the alternatives on the path, in order.
use Rattle.std.specs.Prelude.{◌≡◌, ℕ, zero, suc, ◌+◌, ◌≤◌, List, [], ◌∷◌, ◌++◌, length, take, All, Some, slice_get, option_and_then}
use Rattle.std.specs.Option.{option_map_or}
use Rattle.tfpg_graph.specs.Graph.{Tfpg}
use Rattle.tfpg_log.specs.Log.{Logbook}
use Rattle.tfpg_evidence.specs.declared.reason.Reason.{Reason}
use Rattle.tfpg_evidence.specs.declared.reason.Reason.TheVariants.{Pick}
use Rattle.tfpg_clause.specs.Clauses.{alternatives, count_of}
use Rattle.tfpg_base.specs.Choice.{item_at}
use Rattle.tfpg_clause.specs.declared.path.PathSplit.{PathSplit}
use Rattle.tfpg_search.specs.inside.Leaf.{Leaf, pick_reasons}

-- The split is on a clause that is allowed, with as many alternatives as it says.
abbrev pub IsAllowed : Tfpg → Logbook → PathSplit → Type 0
IsAllowed graph log split = count_of graph log split.name ≡ Some split.alternatives

-- The alternative of the split is one of those that it has.
pub record IsInRange (split : PathSplit) : Type 0 where
  pub first : 1 ≤ split.alternative
  pub last : split.alternative ≤ split.alternatives

-- the alternative of each split is one of those that it has
abbrev pub AreInRange : List PathSplit → Type 0
AreInRange path = All IsInRange path

-- how many constraints the alternative of a split has
abbrev pub constraint_count : Tfpg → Logbook → PathSplit → ℕ
constraint_count graph log split =
    option_map_or length (option_and_then (λ clause. item_at clause split.alternative) (alternatives graph log split.name)) 0

-- so many picks at the split of this number, from this constraint on
abbrev pub picks_from : ℕ → ℕ → ℕ → List Reason
picks_from split number zero = []
picks_from split number (suc more) = Pick split number ∷ picks_from split (number + 1) more

-- the picks of these splits, the first of which has this number
abbrev pub picks_of_from : Tfpg → Logbook → ℕ → List PathSplit → List Reason
picks_of_from graph log number [] = []
picks_of_from graph log number (split ∷ deeper) =
    picks_from number 1 (constraint_count graph log split) ++ picks_of_from graph log (number + 1) deeper

-- the picks of a path
abbrev pub picks_of : Tfpg → Logbook → List PathSplit → List Reason
picks_of graph log path = picks_of_from graph log 1 path

-- The system has the picks of all splits of the path, or of all but the last. These are the numbers of picks before
-- each.
pub record HasEntered (graph : Tfpg) (log : Logbook) (path : List PathSplit) (entered : List ℕ) (leaf : Leaf) : Type 0 where
  pub few : length entered ≤ length path
  pub many : length path ≤ length entered + 1
  pub counts : (split before : ℕ) → slice_get entered split ≡ Some before
      → before ≡ length (picks_of graph log (take split path))
  pub reasons : pick_reasons leaf ≡ picks_of graph log (take (length entered) path)
