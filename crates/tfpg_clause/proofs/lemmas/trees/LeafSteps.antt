-- What a right step does to the path that steps lead to.
use Rattle.std.proofs.Common.{◌≡◌, List, [], ◌∷◌, ◌++◌, length, Option, Some, None, sym, ap, subst}
use Rattle.tfpg_log.proofs.lemmas.events.Events.{whole_log}
use Rattle.tfpg_evidence.specs.declared.step.Step.{Step}
use Rattle.tfpg_evidence.specs.declared.step.Step.TheVariants.{Split, Cycle, Again}
use Rattle.tfpg_clause.specs.Case.{Case, at_log, case_at}
use Rattle.tfpg_clause.specs.Trees.{Judged, IsRefutation}
use Rattle.tfpg_clause.specs.Paths.{with_step, new_split, MovesTo, HasPath}
use Rattle.tfpg_clause.specs.declared.path.PathSplit.{PathSplit}
use Rattle.tfpg_clause.proofs.lemmas.trees.TreeSteps.{Cut, cut_of_leaf, leaf_of_cut, first_cut, split_step, last_cycle, cycle_step, last_again, again_step}
use Rattle.tfpg_clause.proofs.lemmas.trees.Unmarked.{closed_on, refutation_unmarked}
use Rattle.tfpg_clause.proofs.lemmas.trees.LedPaths.{path_of_leaf, leaf_of_path}

-- The case at its first events, where these are all of them.
pub whole_case : (case : Case) → case_at case (length case.log.events) ≡ case
whole_case case = ap (at_log case) (whole_log case.log)

module _ (case : Case) where
  path_of_cut : (steps : List Judged) (path : List PathSplit) → Cut case steps path → HasPath case steps path
  path_of_cut steps path cut = path_of_leaf case steps path (leaf_of_cut case steps path cut)

  cut_of_path : (steps : List Judged) (path : List PathSplit) → HasPath case steps path → Cut case steps path
  cut_of_path steps path has = cut_of_leaf case steps path (leaf_of_path case steps path has)

  -- Without a step the path is that of the root.
  pub leaf_begins : HasPath case [] []
  leaf_begins = path_of_cut [] [] (first_cut case)

  moves_now : (path : List PathSplit) (step : Step) (next : Option (List PathSplit)) → MovesTo case path step next
      → MovesTo (case_at case (length case.log.events)) path step next
  moves_now path step next moves = subst (λ (c : Case). MovesTo c path step next) (sym (whole_case case)) moves

  -- the path goes on to the next leaf
  pub leaf_moves : (steps : List Judged) (path next : List PathSplit) (step : Step) → HasPath case steps path
      → MovesTo case path step (Some next) → HasPath case (with_step steps case.log step) next
  leaf_moves steps path next (Split name) has moves =
      let counted = moves_now path (Split name) (Some next) moves in
      let same : next ≡ path ++ new_split name counted.0 ∷ [] =
      (let is : Some next ≡ Some (path ++ new_split name counted.0 ∷ []) = counted.2 in cc) in
      path_of_cut (with_step steps case.log (Split name)) next
      (subst (Cut case (with_step steps case.log (Split name))) (sym same)
      (split_step case steps path (length case.log.events) name counted.0 (cut_of_path steps path has) counted.1))
  leaf_moves steps path next (Cycle reasons) has moves =
      let closed = moves_now path (Cycle reasons) (Some next) moves in
      path_of_cut (with_step steps case.log (Cycle reasons)) next
      (cycle_step case steps path next (length case.log.events) reasons (cut_of_path steps path has)
      (closed_on (case_at case (length case.log.events)) path reasons closed.0) (sym closed.1))
  leaf_moves steps path next Again has moves =
      path_of_cut (with_step steps case.log Again) next
      (again_step case steps path next (length case.log.events) (cut_of_path steps path has) moves.0 (sym moves.1))

  -- or there is none left
  pub leaf_ends : (steps : List Judged) (path : List PathSplit) (step : Step) → HasPath case steps path → MovesTo case path step None
      → IsRefutation case (with_step steps case.log step)
  leaf_ends steps path (Split name) has moves = let is : None ≡ Some (path ++ new_split name moves.0 ∷ []) = moves.2 in cc
  leaf_ends steps path (Cycle reasons) has moves =
      let closed = moves_now path (Cycle reasons) None moves in
      refutation_unmarked case (with_step steps case.log (Cycle reasons))
      (last_cycle case steps path (length case.log.events) reasons (cut_of_path steps path has)
      (closed_on (case_at case (length case.log.events)) path reasons closed.0) (sym closed.1))
  leaf_ends steps path Again has moves =
      refutation_unmarked case (with_step steps case.log Again)
      (last_again case steps path (length case.log.events) (cut_of_path steps path has) moves.0 (sym moves.1))
