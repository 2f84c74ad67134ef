-- Paths to the present leaf of a partial tree, as a program keeps them: with marks, which spare it the steps. How a step
-- moves such a path.
use Rattle.std.specs.Prelude.{◌≡◌, ◌↔◌, ℕ, ◌+◌, ◌-◌, List, [], ◌∷◌, ◌++◌, length, take, map, nat_lt, Bool, false, not, ◌||◌, ◌==◌, IsTrue, IsSomeAnd, Option, Some, None, option_map}
use Rattle.std.specs.List.{list_any}
use Rattle.std.specs.Option.{option_or}
use Rattle.std.specs.Bool.{then_some}
use Rattle.tfpg_base.specs.Choice.{last_of}
use Rattle.tfpg_log.specs.Log.{Logbook, first_events}
use Rattle.tfpg_evidence.specs.declared.clause_name.ClauseName.{ClauseName}
use Rattle.tfpg_evidence.specs.declared.reason.Reason.{Reason}
use Rattle.tfpg_evidence.specs.declared.reason.Reason.TheVariants.{Pick}
use Rattle.tfpg_evidence.specs.declared.step.Step.{Step}
use Rattle.tfpg_evidence.specs.declared.step.Step.TheVariants.{Split, Cycle, Again}
use Rattle.tfpg_clause.specs.Case.{Case, case_at}
use Rattle.tfpg_clause.specs.Clauses.{count_of}
use Rattle.tfpg_clause.specs.Trees.{Judged, Chosen, TreePlace, IsClosedLeaf, IsReusable, IsRightStep, IsPartial, IsPresentLeaf}
use Rattle.tfpg_clause.specs.declared.path.PathSplit.{PathSplit}

-- the step, judged by the whole log
abbrev pub judged_by : Logbook → Step → Judged
judged_by log step = record { seen = length log.events; step = step }

-- the steps with one more, judged by the whole log
abbrev pub with_step : List Judged → Logbook → Step → List Judged
with_step steps log step = steps ++ judged_by log step ∷ []

-- the earlier steps, and after them these, judged by the whole log
abbrev pub with_steps : List Judged → Logbook → List Step → List Judged
with_steps earlier log added = earlier ++ map (judged_by log) added

-- The step that comes next after these steps is right at their present leaf.
pub record IsRightNext (case : Case) (steps : List Judged) (next : Judged) : Type 0 where
  pub place : TreePlace
  pub leaf : IsPresentLeaf case steps place
  pub subtrees : ℕ
  pub right : IsRightStep (case_at case next.seen) place subtrees next.step

-- ---- paths with marks

-- the alternatives that are taken on a path
abbrev pub chosen_on : List PathSplit → List Chosen
chosen_on path =
    map (λ (split : PathSplit). record { name = split.name; alternative = split.alternative }) path

-- the test of a reason that is a pick of the split with this number
abbrev pub is_pick_of : ℕ → Reason → Bool
is_pick_of number (Pick split constraint) = split == number
is_pick_of number _ = false

-- whether some of the reasons is a pick of the split with this number
abbrev pub cites : List Reason → ℕ → Bool
cites reasons number = list_any (is_pick_of number) reasons

-- a new split on a clause with so many alternatives, in its first alternative: nothing cited it, and no alternative is before
abbrev pub new_split : ClauseName → ℕ → PathSplit
new_split name count = record { name = name; alternative = 1; alternatives = count; cited = false; reusable = false }

-- the split, cited also if this is so
abbrev pub also_cited : Bool → PathSplit → PathSplit
also_cited cited split = record split { cited = split.cited || cited }

-- The split in its next alternative: the subtree of the one before is reusable if it did not cite the split.
abbrev pub next_alternative : PathSplit → PathSplit
next_alternative split =
    record split { alternative = split.alternative + 1; cited = false; reusable = not split.cited }

-- the splits, the first of which has this number, where those that the reasons cite are marked so
abbrev pub cited_from : ℕ → List Reason → List PathSplit → List PathSplit
cited_from number reasons [] = []
cited_from number reasons (split ∷ deeper) =
    also_cited (cites reasons number) split ∷ cited_from (number + 1) reasons deeper

-- the path, where the splits that the reasons cite are marked so
abbrev pub cited_by : List Reason → List PathSplit → List PathSplit
cited_by reasons path = cited_from 1 reasons path

-- By its mark the last split of the path is in an alternative where the subtree of the one before is reusable.
abbrev pub IsMarkedReusable : List PathSplit → Type 0
IsMarkedReusable path = IsSomeAnd (last_of path) (λ split. IsTrue split.reusable)

-- The path to the present leaf once the leaf of this path is closed: to the next alternative of the deepest split that
-- has one left, where there is one.
abbrev pub next_leaf : List PathSplit → Option (List PathSplit)
next_leaf [] = None
next_leaf (split ∷ deeper) =
    option_or (option_map (λ path. split ∷ path) (next_leaf deeper))
    (then_some (nat_lt split.alternative split.alternatives) (next_alternative split ∷ []))

-- the path without its deepest split
abbrev pub above_last : List PathSplit → List PathSplit
above_last path = take (length path - 1) path

-- ---- how steps move a path

-- The path to the next leaf after a right step that so many events judged, where there is one. A split on an allowed name
-- enters its first alternative. A cycle closes the leaf, and marks the splits that it cites. A subtree that is reused closes
-- this alternative and all later ones, and so the deepest split.
abbrev pub leaf_next : Case → List PathSplit → ℕ → Step → Option (List PathSplit)
leaf_next case path seen (Split name) =
    option_map (λ (count : ℕ). path ++ new_split name count ∷ [])
    (count_of case.graph (first_events case.log seen) name)
leaf_next case path seen (Cycle reasons) = next_leaf (cited_by reasons path)
leaf_next case path seen Again = next_leaf (above_last path)

-- the path after steps from the leaf of this path, where there is one
abbrev pub leaf_after : Case → Option (List PathSplit) → List Judged → Option (List PathSplit)
leaf_after case leaf [] = leaf
leaf_after case None (step ∷ steps) = None
leaf_after case (Some path) (step ∷ steps) = leaf_after case (leaf_next case path step.seen step.step) steps

-- The steps are a partial tree, and lead from the root to the leaf of this path.
pub record HasPath (case : Case) (steps : List Judged) (path : List PathSplit) : Type 0 where
  pub partial : IsPartial case steps
  pub led : leaf_after case (Some []) steps ≡ Some path

-- The path is that of the place: the same alternatives are taken, and it is marked whether a subtree is reusable.
pub record IsPathOf (path : List PathSplit) (place : TreePlace) : Type 0 where
  pub chosen : chosen_on path ≡ place.path
  pub reusable : IsMarkedReusable path ↔ IsReusable place

-- The step is right at the leaf of this path, and the next leaf is that of the other path, where there is one.
abbrev pub MovesTo : Case → List PathSplit → Step → Option (List PathSplit) → Type 0
MovesTo case path (Split name) next =
    (count : ℕ) × (count_of case.graph case.log name ≡ Some count) × (next ≡ Some (path ++ new_split name count ∷ []))
MovesTo case path (Cycle reasons) next =
    IsClosedLeaf case (chosen_on path) reasons × (next ≡ next_leaf (cited_by reasons path))
MovesTo case path Again next = IsMarkedReusable path × (next ≡ next_leaf (above_last path))
