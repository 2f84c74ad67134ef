-- A partial tree has a present leaf.
use Rattle.std.proofs.Common.{◌≡◌, ◌<◌, List, [], length, Some, ap, arith, length-append}
use Rattle.std.specs.Prelude.{option_map, slice_get}
use Rattle.std.proofs.lemmas.List.{length-map}
use Rattle.tfpg_base.proofs.lemmas.lists.Elements.{slice_get-there}
use Rattle.tfpg_clause.specs.Case.{Case}
use Rattle.tfpg_clause.specs.Trees.{Judged, Tree, Leaf, Branch, TreePlace, StepPlace, root, places_of, IsPartial, IsPresentLeaf}

module _ (case : Case) where
  -- a partial tree has more places than steps
  pub more_places : (steps : List Judged) (partial : IsPartial case steps) → length steps < length (places_of partial.tree)
  more_places steps partial =
      omega (
        arith,
        length-append steps partial.more,
        ap length partial.steps_are,
        length-map (places_of partial.tree) (λ (place : StepPlace). place.step),
        partial.unfinished,
      )

  -- So a partial tree has a present leaf.
  pub leaf_there : (steps : List Judged) → IsPartial case steps → (place : TreePlace) × IsPresentLeaf case steps place
  leaf_there steps partial =
      let found = slice_get-there (places_of partial.tree) (length steps) (more_places steps partial) in
      (found.0.place, record { partial = partial; here = ap (option_map (λ (next : StepPlace). next.place)) found.1 })

-- Without a step the present leaf is the root.
pub leaf_of_none : (case : Case) (place : TreePlace) → IsPresentLeaf case [] place → place ≡ root
leaf_of_none case place leaf = by leaf.partial.tree leaf.here
  where
    by : (tree : Tree) → option_map (λ (next : StepPlace). next.place) (slice_get (places_of tree) 0) ≡ Some place → place ≡ root
    by (Leaf seen reasons) is = let same : Some root ≡ Some place = is in cc
    by (Branch seen name subtrees) is = let same : Some root ≡ Some place = is in cc
