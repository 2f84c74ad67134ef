-- Trees by the paths that a program keeps: the places of a tree with the marks of the splits before them. That these are the
-- same trees is proved in `proofs/trees/Unmarked.antt`.
use Rattle.std.specs.Prelude.{◌≡◌, ℕ, ◌+◌, ◌<◌, List, [], ◌∷◌, ◌++◌, length, take, map, All, Option, Some, option_map, option_and_then, slice_get}
use Rattle.tfpg_base.specs.Choice.{item_at}
use Rattle.tfpg_base.specs.declared.constraint.Constraint.{Constraint}
use Rattle.tfpg_graph.specs.Graph.{Tfpg}
use Rattle.tfpg_log.specs.Log.{Logbook}
use Rattle.tfpg_evidence.specs.declared.clause_name.ClauseName.{ClauseName}
use Rattle.tfpg_evidence.specs.declared.reason.Reason.{Reason}
use Rattle.tfpg_evidence.specs.declared.step.Step.{Step}
use Rattle.tfpg_evidence.specs.declared.step.Step.TheVariants.{Split, Cycle, Again}
use Rattle.tfpg_clause.specs.Case.{Case, case_at}
use Rattle.tfpg_clause.specs.Facts.{fact}
use Rattle.tfpg_clause.specs.Clauses.{alternatives, count_of, constraint_at}
use Rattle.tfpg_clause.specs.Trees.{Judged, Tree, Leaf, Branch, Subtrees, NoMore, Next, Reused, how_many, reasons_in, stated_with, IsClosedBy}
use Rattle.tfpg_clause.specs.Paths.{cites, new_split, also_cited, next_alternative, cited_by, IsMarkedReusable}
use Rattle.tfpg_clause.specs.declared.path.PathSplit.{PathSplit}

-- a step in its place in a tree: the splits from the root to it, the step, and how many subtrees it has
pub record MarkedPlace : Type 0 where
  pub path : List PathSplit
  pub step : Judged
  pub subtrees : ℕ

-- the place of a leaf of this path
abbrev pub leaf_place : List PathSplit → ℕ → List Reason → MarkedPlace
leaf_place path seen reasons =
    record { path = path; step = record { seen = seen; step = Cycle reasons }; subtrees = 0 }

-- the place of a branch of this path
abbrev pub branch_place : List PathSplit → ℕ → ClauseName → ℕ → MarkedPlace
branch_place path seen name subtrees =
    record { path = path; step = record { seen = seen; step = Split name }; subtrees = subtrees }

-- the place of a step that reuses a subtree
abbrev pub again_place : List PathSplit → ℕ → MarkedPlace
again_place path seen = record { path = path; step = record { seen = seen; step = Again }; subtrees = 0 }

-- the split of this number after a subtree in whose cycles these are the reasons
abbrev pub after_subtree : ℕ → List Reason → PathSplit → PathSplit
after_subtree number reasons split = next_alternative (also_cited (cites reasons number) split)

-- The places of a tree, in the order of the steps: a split, and then its subtrees one after the other.
abbrev mutual
  pub marked_places : List PathSplit → Tree → List MarkedPlace
  marked_places path (Leaf seen reasons) = leaf_place path seen reasons ∷ []
  marked_places path (Branch seen name subtrees) =
      branch_place path seen name (how_many subtrees) ∷ marked_from path (new_split name (how_many subtrees)) subtrees

  -- the places of the subtrees of a split, the first of which is that of the split's present alternative
  pub marked_from : List PathSplit → PathSplit → Subtrees → List MarkedPlace
  marked_from path split NoMore = []
  marked_from path split (Next tree others) =
      marked_places (path ++ split ∷ []) tree
      ++ marked_from (cited_by (reasons_in tree) path) (after_subtree (length path + 1) (reasons_in tree) split) others
  marked_from path split (Reused seen others) = again_place (path ++ split ∷ []) seen ∷ []

-- the places of a whole tree
abbrev pub marked_places_of : Tree → List MarkedPlace
marked_places_of tree = marked_places [] tree

-- the steps of a tree, in order
abbrev pub marked_steps_of : Tree → List Judged
marked_steps_of tree = map (λ (place : MarkedPlace). place.step) (marked_places_of tree)

-- the constraint with this number in the alternative that is taken at a split of the path, both numbered from 1
abbrev pub picked_on : Tfpg → Logbook → List PathSplit → ℕ → ℕ → Option Constraint
picked_on graph log path split number =
    option_and_then
    (λ (taken : PathSplit).
    option_and_then (λ clause. constraint_at clause taken.alternative number) (alternatives graph log taken.name))
    (item_at path split)

-- the constraint that a reason states at the leaf of this path
abbrev pub stated_on : Case → List PathSplit → Reason → Option Constraint
stated_on case path reason = stated_with (picked_on case.graph case.log path) (fact case) reason

-- The leaf of this path is closed by the reasons.
abbrev pub IsClosedOn : Case → List PathSplit → List Reason → Type 0
IsClosedOn case path reasons = IsClosedBy (stated_on case path) reasons

-- The step, with so many subtrees, is right at the leaf of this path.
abbrev pub IsMarkedStep : Case → List PathSplit → ℕ → Step → Type 0
IsMarkedStep case path subtrees (Split name) = count_of case.graph case.log name ≡ Some subtrees
IsMarkedStep case path subtrees (Cycle reasons) = IsClosedOn case path reasons
IsMarkedStep case path subtrees Again = IsMarkedReusable path

-- The step of a place is right there, judged by the first events of the log that judged it.
abbrev pub IsMarkedRight : Case → MarkedPlace → Type 0
IsMarkedRight case place =
    IsMarkedStep (case_at case place.step.seen) place.path place.subtrees place.step.step

-- The steps are a refutation by their marked places.
pub record IsMarkedRefutation (case : Case) (steps : List Judged) : Type 0 where
  pub tree : Tree
  pub steps_are : steps ≡ marked_steps_of tree
  pub right : All (IsMarkedRight case) (marked_places_of tree)

-- The steps are a partial tree by their marked places.
pub record IsMarkedPartial (case : Case) (steps : List Judged) : Type 0 where
  pub tree : Tree
  pub more : List Judged
  pub unfinished : 0 < length more
  pub steps_are : steps ++ more ≡ marked_steps_of tree
  pub right : All (IsMarkedRight case) (take (length steps) (marked_places_of tree))

-- The present leaf of a partial tree has this path.
pub record IsMarkedLeaf (case : Case) (steps : List Judged) (path : List PathSplit) : Type 0 where
  pub partial : IsMarkedPartial case steps
  pub here : option_map (λ (place : MarkedPlace). place.path) (slice_get (marked_places_of partial.tree) (length steps)) ≡
      Some path

-- The step that comes next after these steps is right at the leaf of their path.
pub record IsMarkedNext (case : Case) (steps : List Judged) (next : Judged) : Type 0 where
  pub path : List PathSplit
  pub leaf : IsMarkedLeaf case steps path
  pub subtrees : ℕ
  pub right : IsMarkedStep (case_at case next.seen) path subtrees next.step
