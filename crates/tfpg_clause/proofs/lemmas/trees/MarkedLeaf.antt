-- A partial tree has a present leaf, by its marked places.
use Rattle.std.proofs.Common.{◌<◌, List, length, ap, arith, length-append}
use Rattle.std.specs.Prelude.{option_map}
use Rattle.std.proofs.lemmas.List.{length-map}
use Rattle.tfpg_base.proofs.lemmas.lists.Elements.{slice_get-there}
use Rattle.tfpg_clause.specs.Case.{Case}
use Rattle.tfpg_clause.specs.Trees.{Judged}
use Rattle.tfpg_clause.specs.inside.MarkedTrees.{MarkedPlace, marked_places_of, IsMarkedPartial, IsMarkedLeaf}
use Rattle.tfpg_clause.specs.declared.path.PathSplit.{PathSplit}

module _ (case : Case) where
  -- a partial tree has more places than steps
  pub more_places : (steps : List Judged) (partial : IsMarkedPartial case steps) → length steps < length (marked_places_of partial.tree)
  more_places steps partial =
      omega (
        arith,
        length-append steps partial.more,
        ap length partial.steps_are,
        length-map (marked_places_of partial.tree) (λ (place : MarkedPlace). place.step),
        partial.unfinished,
      )

  -- So a partial tree has a present leaf.
  pub leaf_there : (steps : List Judged) → IsMarkedPartial case steps → (path : List PathSplit) × IsMarkedLeaf case steps path
  leaf_there steps partial =
      let found = slice_get-there (marked_places_of partial.tree) (length steps) (more_places steps partial) in
      (found.0.path, record { partial = partial; here = ap (option_map (λ (place : MarkedPlace). place.path)) found.1 })
