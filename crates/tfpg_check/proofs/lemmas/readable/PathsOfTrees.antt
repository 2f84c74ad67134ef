-- The path of a place of a tree is not longer than there are places before it.
use Rattle.std.proofs.Common.{◌≡◌, ℕ, zero, suc, ◌+◌, ◌≤◌, List, [], ◌∷◌, ◌++◌, length, Option, Some, None, refl, ap, arith, length-append}
use Rattle.std.specs.Prelude.{slice_get}
use Rattle.tfpg_evidence.specs.declared.clause_name.ClauseName.{ClauseName}
use Rattle.tfpg_evidence.specs.declared.reason.Reason.{Reason}
use Rattle.tfpg_evidence.specs.declared.step.Step.TheVariants.{Split, Cycle, Again}
use Rattle.tfpg_clause.specs.Trees.{Tree, Leaf, Branch, Subtrees, NoMore, Next, Reused, Chosen, TreePlace, StepPlace, how_many, place_in, step_at, places, places_from, places_of, reasons_in, root}

-- the path of each place is not longer than this number and the places before it
abbrev ArePathsShort : ℕ → List StepPlace → Type 0
ArePathsShort splits places = (index : ℕ) (place : StepPlace) → slice_get places index ≡ Some place → length place.place.path ≤ splits + index

none_short : (splits : ℕ) → ArePathsShort splits []
none_short splits index place at = absurd cc

first_short : (splits : ℕ) (first : StepPlace) (others : List StepPlace) → length first.place.path ≤ splits → ArePathsShort (splits + 1) others → ArePathsShort splits (first ∷ others)
first_short splits first others here later zero place at =
    let same : first ≡ place = cc in
    omega (arith, here, ap (λ (p : StepPlace). length p.place.path) same)
first_short splits first others here later (suc index) place at = omega (arith, later index place at)

more_short : (splits : ℕ) (places : List StepPlace) → ArePathsShort splits places → ArePathsShort (splits + 1) places
more_short splits places short index place at = omega (arith, short index place at)

both_short : (splits : ℕ) (front back : List StepPlace) → ArePathsShort splits front → ArePathsShort splits back → ArePathsShort splits (front ++ back)
both_short splits [] back short later = later
both_short splits (first ∷ front) back short later =
    first_short splits first (front ++ back) (omega (arith, short 0 first refl))
    (both_short (splits + 1) front back (λ index place at. omega (arith, short (suc index) place at)) (more_short splits back later))

mutual
  tree_short : (place : TreePlace) (tree : Tree) → ArePathsShort (length place.path) (places place tree)
  tree_short place (Leaf seen reasons) = first_short (length place.path) (step_at place seen (Cycle reasons) 0) [] (omega arith) (none_short (length place.path + 1))
  tree_short place (Branch seen name subtrees) =
      first_short (length place.path) (step_at place seen (Split name) (how_many subtrees)) (places_from place.path name 1 None subtrees) (omega arith)
      (subtrees_short place.path name 1 None subtrees)

  subtrees_short : (path : List Chosen) (name : ClauseName) (alternative : ℕ) (before : Option (List Reason)) (subtrees : Subtrees)
      → ArePathsShort (length path + 1) (places_from path name alternative before subtrees)
  subtrees_short path name alternative before NoMore = none_short (length path + 1)
  subtrees_short path name alternative before (Reused seen others) =
      first_short (length path + 1) (step_at (place_in path name alternative before) seen Again 0) []
      (omega (arith, length-append path (record { name = name; alternative = alternative } ∷ []))) (none_short (length path + 1 + 1))
  subtrees_short path name alternative before (Next tree others) =
      let own : TreePlace = place_in path name alternative before in
      let taken : Chosen = record { name = name; alternative = alternative } in
      both_short (length path + 1) (places own tree) (places_from path name (alternative + 1) (Some (reasons_in tree)) others)
      (λ index place at. omega (arith, length-append path (taken ∷ []), tree_short own tree index place at))
      (subtrees_short path name (alternative + 1) (Some (reasons_in tree)) others)

-- The path of a place is not longer than its index.
pub path_short : (tree : Tree) (index : ℕ) (place : StepPlace) → slice_get (places_of tree) index ≡ Some place → length place.place.path ≤ index
path_short tree index place at = omega (arith, tree_short root tree index place at)
