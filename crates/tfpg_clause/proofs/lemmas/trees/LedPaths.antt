-- The paths that steps lead to, and the present leaf: each is found by the other, and there is one of each.
use Rattle.std.proofs.Common.{◌≡◌, ◌↔◌, List, [], ◌∷◌, ◌++◌, sym, subst, ◌∙◌}
use Rattle.std.proofs.lemmas.Option.{same_Some}
use Rattle.tfpg_clause.specs.Case.{Case, case_at}
use Rattle.tfpg_clause.specs.Trees.{Judged, TreePlace, IsReusable, IsRefutation, IsPartial, IsPresentLeaf}
use Rattle.tfpg_clause.specs.Paths.{HasPath, IsPathOf, IsRightNext}
use Rattle.tfpg_clause.specs.inside.MarkedTrees.{IsMarkedLeaf, IsMarkedNext}
use Rattle.tfpg_clause.specs.declared.path.PathSplit.{PathSplit}
use Rattle.tfpg_clause.proofs.lemmas.trees.MarkedLeaf.{leaf_there}
use Rattle.tfpg_clause.proofs.lemmas.trees.TreeSteps as marked
use Rattle.tfpg_clause.proofs.lemmas.trees.Unmarked.{partial_marked, partial_unmarked, refutation_marked, leaf_marked, leaf_unmarked, right_step}

module _ (case : Case) where
  -- Steps lead to the path of their leaf by the marked places,
  pub path_of_leaf : (steps : List Judged) (path : List PathSplit) → IsMarkedLeaf case steps path → HasPath case steps path
  path_of_leaf steps path leaf = record {
    partial = partial_unmarked case steps leaf.partial;
    led = marked.path_of_cut case steps path (marked.cut_of_leaf case steps path leaf);
  }

  -- and to no other.
  pub leaf_of_path : (steps : List Judged) (path : List PathSplit) → HasPath case steps path → IsMarkedLeaf case steps path
  leaf_of_path steps path has =
      let there = leaf_there case steps (partial_marked case steps has.partial) in
      let same : there.0 ≡ path =
      same_Some there.0 path (sym (marked.path_of_cut case steps there.0 (marked.cut_of_leaf case steps there.0 there.1)) ∙ has.led) in
      subst (IsMarkedLeaf case steps) same there.1

  -- A path that steps lead to is that of their present leaf.
  pub place_of_path : (steps : List Judged) (path : List PathSplit) → HasPath case steps path
      → (place : TreePlace) × IsPresentLeaf case steps place × IsPathOf path place
  place_of_path steps path has = leaf_unmarked case steps path (leaf_of_path steps path has)

  -- There is one present leaf.
  pub one_leaf : (steps : List Judged) (one other : TreePlace) → IsPresentLeaf case steps one → IsPresentLeaf case steps other
      → (one.path ≡ other.path) × (IsReusable one ↔ IsReusable other)
  one_leaf steps one other first second =
      let own = leaf_marked case steps one first in
      let also = leaf_marked case steps other second in
      let same : also.0 ≡ own.0 = marked.one_leaf case steps also.0 own.0 also.1 own.1 in
      let of : IsPathOf own.0 other = subst (λ (p : List PathSplit). IsPathOf p other) same also.2 in (
        sym own.2.chosen ∙ of.chosen,
        (λ reusable. of.reusable.0 (own.2.reusable.1 reusable), λ reusable. own.2.reusable.0 (of.reusable.1 reusable)),
      )

  -- A refutation is no partial tree.
  pub no_partial : (steps : List Judged) → IsRefutation case steps → IsPartial case steps → ⊥
  no_partial steps refutation partial =
      marked.no_partial case steps (refutation_marked case steps refutation) (partial_marked case steps partial)

  -- what is right next by the marks is right next
  right_next : (steps : List Judged) (next : Judged) → IsMarkedNext case steps next → IsRightNext case steps next
  right_next steps next is =
      let there = leaf_unmarked case steps is.path is.leaf in
      record {
        place = there.0;
        leaf = there.1;
        subtrees = is.subtrees;
        right =
            (right_step (case_at case next.seen) is.path there.0 is.subtrees there.2 next.step).0 is.right;
      }

  -- The last step of a refutation is right at the present leaf of the steps before it;
  pub last_of_refutation : (steps : List Judged) (last : Judged) → IsRefutation case (steps ++ last ∷ []) → IsRightNext case steps last
  last_of_refutation steps last refutation =
      right_next steps last (marked.last_of_refutation case steps last (refutation_marked case (steps ++ last ∷ []) refutation))

  -- and so is that of a partial tree.
  pub last_of_partial : (steps : List Judged) (last : Judged) → IsPartial case (steps ++ last ∷ []) → IsRightNext case steps last
  last_of_partial steps last partial =
      right_next steps last (marked.last_of_partial case steps last (partial_marked case (steps ++ last ∷ []) partial))
