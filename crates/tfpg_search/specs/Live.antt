-- Which splits a search makes, and when its tree is unsettled.
use Rattle.std.specs.Prelude.{◌≡◌, ◌≢◌, ℕ, List, ◌++◌, map, AllPairs, Some}
use Rattle.tfpg_base.specs.Choice.{each_of}
use Rattle.tfpg_base.specs.declared.constraint.Constraint.{Constraint}
use Rattle.tfpg_base.specs.ConstraintCycle.{HasDistinctLefts}
use Rattle.tfpg_evidence.specs.declared.clause_name.ClauseName.{ClauseName}
use Rattle.tfpg_evidence.specs.declared.reason.Reason.{Reason}
use Rattle.tfpg_clause.specs.Order.{IsFirstViolated}
use Rattle.tfpg_clause.specs.Case.{Case}
use Rattle.tfpg_clause.specs.Trees.{Judged, Chosen, TreePlace, IsPresentLeaf, IsReusable, stated}
use Rattle.tfpg_search.specs.Solutions.{IsLatestAt}

-- A split on the name would be live at the leaf of this path: the latest solution there violates its clause, whose horizon is
-- now, and no earlier clause of that horizon.
pub record IsLiveAt (case : Case) (path : List Chosen) (name : ClauseName) : Type 0 where
  pub times : List ℕ
  pub latest : IsLatestAt case path times
  pub first : IsFirstViolated case.graph case.log times name

-- A split on the name is live after these steps: it is so at their present leaf.
pub record IsLive (case : Case) (steps : List Judged) (name : ClauseName) : Type 0 where
  pub place : TreePlace
  pub leaf : IsPresentLeaf case steps place
  pub live : IsLiveAt case place.path name

-- The tree of these steps is unsettled: some split would be live.
abbrev pub IsUnsettled : Case → List Judged → Type 0
IsUnsettled case steps = (name : ClauseName) × IsLive case steps name

-- In the cycle of these reasons at the leaf of this path no left side stands twice.
pub record IsSimpleAt (case : Case) (path : List Chosen) (reasons : List Reason) : Type 0 where
  pub constraints : List Constraint
  pub hold : each_of (map (stated case path) reasons) ≡ Some constraints
  pub simple : HasDistinctLefts constraints

-- In the cycle of these reasons at the present leaf no left side stands twice.
pub record IsSimpleAfter (case : Case) (steps : List Judged) (reasons : List Reason) : Type 0 where
  pub place : TreePlace
  pub leaf : IsPresentLeaf case steps place
  pub simple : IsSimpleAt case place.path reasons

-- After these steps a subtree is reusable: it is so at their present leaf.
pub record AllowsReuse (case : Case) (steps : List Judged) : Type 0 where
  pub place : TreePlace
  pub leaf : IsPresentLeaf case steps place
  pub reusable : IsReusable place

-- no clause name stands twice on the path
abbrev pub HasDistinctNames : List Chosen → Type 0
HasDistinctNames path = AllPairs ◌≢◌ (map (λ (chosen : Chosen). chosen.name) path)

-- No clause name stands twice on a path of the tree of these steps: at none of their leaves, when it was the present one.
abbrev pub HasNoNameTwice : Case → List Judged → Type 0
HasNoNameTwice case steps =
    (front back : List Judged) (place : TreePlace) → steps ≡ front ++ back → IsPresentLeaf case front place
    → HasDistinctNames place.path
