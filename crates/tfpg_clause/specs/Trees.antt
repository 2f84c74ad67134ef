-- Refutations: trees of clauses, each leaf of which is closed by a cycle of constraints that cannot all hold. One walk
-- over a tree gives its places in the order of the steps, and what is said of trees is said of these.
use Rattle.std.specs.Prelude.{◌≡◌, ℕ, suc, ◌+◌, ◌<◌, List, [], ◌∷◌, ◌++◌, length, take, map, count_by, All, Contains, Bool, true, false, IsSomeAnd, Option, Some, None, option_map, option_and_then, slice_get}
use Rattle.tfpg_base.specs.Choice.{each_of, item_at}
use Rattle.tfpg_base.specs.ConstraintCycle.{IsNegativeCycle}
use Rattle.tfpg_base.specs.declared.constraint.Constraint.{Constraint}
use Rattle.tfpg_graph.specs.Graph.{Tfpg}
use Rattle.tfpg_log.specs.Log.{Logbook}
use Rattle.tfpg_evidence.specs.declared.clause_name.ClauseName.{ClauseName}
use Rattle.tfpg_evidence.specs.declared.reason.Reason.{Reason}
use Rattle.tfpg_evidence.specs.declared.reason.Reason.TheVariants.{Pick}
use Rattle.tfpg_evidence.specs.declared.step.Step.{Step}
use Rattle.tfpg_evidence.specs.declared.step.Step.TheVariants.{Split, Cycle, Again}
use Rattle.tfpg_clause.specs.Case.{Case, case_at}
use Rattle.tfpg_clause.specs.Facts.{fact}
use Rattle.tfpg_clause.specs.Clauses.{alternatives, count_of, constraint_at}

-- a step, with the number of events of the log that judged it
pub record Judged : Type 0 where
  pub seen : ℕ
  pub step : Step

-- the test of a step that splits
abbrev pub is_split : Step → Bool
is_split (Split name) = true
is_split _ = false

-- how many of the steps are splits
abbrev pub split_count : List Step → ℕ
split_count steps = count_by is_split steps

-- A tree: a leaf with its reasons, or a branch on a clause with its subtrees, each with the number of events of the log
-- that judged it.
mutual
  pub data Tree : Type 0 where
    Leaf : (seen : ℕ) (reasons : List Reason) → Tree
    Branch : (seen : ℕ) (name : ClauseName) (subtrees : Subtrees) → Tree

  -- trees one after the other; at the end the last of them may be reused for one alternative and so many others
  pub data Subtrees : Type 0 where
    NoMore : Subtrees
    Next : (tree : Tree) (others : Subtrees) → Subtrees
    Reused : (seen : ℕ) (others : ℕ) → Subtrees

-- how many subtrees there are, where a tree counts once for each alternative that it closes
abbrev pub how_many : Subtrees → ℕ
how_many NoMore = 0
how_many (Next tree others) = suc (how_many others)
how_many (Reused seen others) = suc others

-- the reasons of all cycles of a tree
abbrev mutual
  pub reasons_in : Tree → List Reason
  reasons_in (Leaf seen reasons) = reasons
  reasons_in (Branch seen name subtrees) = reasons_in_all subtrees

  -- those of subtrees
  pub reasons_in_all : Subtrees → List Reason
  reasons_in_all NoMore = []
  reasons_in_all (Next tree others) = reasons_in tree ++ reasons_in_all others
  reasons_in_all (Reused seen others) = []

-- the alternative that was taken at a split: the name of its clause, and its number, counted from 1
pub record Chosen : Type 0 where
  pub name : ClauseName
  pub alternative : ℕ

-- A place in a tree: the alternatives taken from the root to it; and, where an alternative comes before the last of these,
-- the reasons of all cycles in the subtree of that one.
pub record TreePlace : Type 0 where
  pub path : List Chosen
  pub before : Option (List Reason)

-- the place of the root
abbrev pub root : TreePlace
root = record { path = []; before = None }

-- the place of an alternative of a split that has this path, after a subtree with these reasons, where there is one
abbrev pub place_in : List Chosen → ClauseName → ℕ → Option (List Reason) → TreePlace
place_in path name alternative before =
    record { path = path ++ record { name = name; alternative = alternative } ∷ []; before = before }

-- a step in its place in a tree, and how many subtrees it has
pub record StepPlace : Type 0 where
  pub place : TreePlace
  pub step : Judged
  pub subtrees : ℕ

-- this step, so judged, with so many subtrees, in this place
abbrev pub step_at : TreePlace → ℕ → Step → ℕ → StepPlace
step_at place seen step subtrees =
    record { place = place; step = record { seen = seen; step = step }; subtrees = subtrees }

-- The places of a tree, in the order of the steps: a split, and then its subtrees one after the other.
abbrev mutual
  pub places : TreePlace → Tree → List StepPlace
  places place (Leaf seen reasons) = step_at place seen (Cycle reasons) 0 ∷ []
  places place (Branch seen name subtrees) =
      step_at place seen (Split name) (how_many subtrees) ∷ places_from place.path name 1 None subtrees

  -- the places of the subtrees of a split with this path, from this alternative on
  pub places_from : List Chosen → ClauseName → ℕ → Option (List Reason) → Subtrees → List StepPlace
  places_from path name alternative before NoMore = []
  places_from path name alternative before (Next tree others) =
      places (place_in path name alternative before) tree
      ++ places_from path name (alternative + 1) (Some (reasons_in tree)) others
  places_from path name alternative before (Reused seen others) =
      step_at (place_in path name alternative before) seen Again 0 ∷ []

-- the places of a whole tree
abbrev pub places_of : Tree → List StepPlace
places_of tree = places root tree

-- the steps of a tree, in order
abbrev pub steps_of : Tree → List Judged
steps_of tree = map (λ place. place.step) (places_of tree)

-- The constraint with this number in the alternative that was taken at a split, both numbered from 1, at this log. The log
-- is that which judges the step that cites the constraint, and not that which judged the split. What is allowed at a log
-- is allowed with the same constraints at each later one, and the steps of rounds are judged by later and later logs: so
-- for them it is the same.
abbrev pub picked : Tfpg → Logbook → List Chosen → ℕ → ℕ → Option Constraint
picked graph log path split number =
    option_and_then
    (λ (taken : Chosen).
    option_and_then (λ clause. constraint_at clause taken.alternative number) (alternatives graph log taken.name))
    (item_at path split)

-- The constraint that a reason states, where one function gives each pick, and another each fact.
abbrev pub stated_with : (ℕ → ℕ → Option Constraint) → (Reason → Option Constraint) → Reason → Option Constraint
stated_with pick_at fact_of (Pick split number) = pick_at split number
stated_with pick_at fact_of reason = fact_of reason

-- The constraint that a reason states at a leaf of this path: a fact, or one that was picked on the path.
abbrev pub stated : Case → List Chosen → Reason → Option Constraint
stated case path reason = stated_with (picked case.graph case.log path) (fact case) reason

-- The reasons close a leaf: each states its constraint, and these are a negative cycle.
pub record IsClosedBy (stated : Reason → Option Constraint) (reasons : List Reason) : Type 0 where
  pub constraints : List Constraint
  pub hold : each_of (map stated reasons) ≡ Some constraints
  pub negative_cycle : IsNegativeCycle constraints

-- The leaf of this path is closed by the reasons.
abbrev pub IsClosedLeaf : Case → List Chosen → List Reason → Type 0
IsClosedLeaf case path reasons = IsClosedBy (stated case path) reasons

-- In this place the subtree of the alternative before is reusable: there is one, and none of its cycles picks from the split.
abbrev pub IsReusable : TreePlace → Type 0
IsReusable place =
    IsSomeAnd place.before (λ reasons. (number : ℕ) → Contains reasons (Pick (length place.path) number) → ⊥)

-- The step, with so many subtrees, is right in this place: a split has an allowed name, and one subtree for each
-- alternative; a cycle closes the leaf; and a subtree is reused where one is reusable.
abbrev pub IsRightStep : Case → TreePlace → ℕ → Step → Type 0
IsRightStep case place subtrees (Split name) = count_of case.graph case.log name ≡ Some subtrees
IsRightStep case place subtrees (Cycle reasons) = IsClosedLeaf case place.path reasons
IsRightStep case place subtrees Again = IsReusable place

-- The step of a place is right there, judged by the first events of the log that judged it.
abbrev pub IsRight : Case → StepPlace → Type 0
IsRight case here = IsRightStep (case_at case here.step.seen) here.place here.subtrees here.step.step

-- The steps are a refutation: those of a tree all of whose places are right.
pub record IsRefutation (case : Case) (steps : List Judged) : Type 0 where
  pub tree : Tree
  pub steps_are : steps ≡ steps_of tree
  pub right : All (IsRight case) (places_of tree)

-- The steps are a partial tree: a tree begins with them and goes on, and its places so far are right.
pub record IsPartial (case : Case) (steps : List Judged) : Type 0 where
  pub tree : Tree
  pub more : List Judged
  pub unfinished : 0 < length more
  pub steps_are : steps ++ more ≡ steps_of tree
  pub right : All (IsRight case) (take (length steps) (places_of tree))

-- This is the place of the present leaf of a partial tree: the next step would stand there.
pub record IsPresentLeaf (case : Case) (steps : List Judged) (place : TreePlace) : Type 0 where
  pub partial : IsPartial case steps
  pub here : option_map (λ (next : StepPlace). next.place) (slice_get (places_of partial.tree) (length steps)) ≡
      Some place
