-- Going through the places of a tree, the path of the present leaf is that of the next place.
use Rattle.std.proofs.Common.{◌≡◌, ℕ, suc, ◌+◌, ◌-◌, ◌<◌, length, List, [], ◌∷◌, ◌++◌, Option, Some, sym, ap, subst, ◌∙◌, inl, inr, arith}
use Rattle.std.specs.Prelude.{All, map, option_map}
use Rattle.std.proofs.lemmas.List.Elements.{All-head, All-tail}
use Rattle.std.proofs.lemmas.List.{map-append, append-nil, length-append, take_at}
use Rattle.tfpg_base.proofs.lemmas.lists.Cuts.{cut_twice}
use Rattle.tfpg_base.proofs.lemmas.lists.Elements.{All-front, All-back}
use Rattle.tfpg_log.specs.Log.{first_events}
use Rattle.tfpg_clause.specs.Case.{Case}
use Rattle.tfpg_clause.specs.Clauses.{count_of}
use Rattle.tfpg_clause.specs.Trees.{Judged, Tree, Leaf, Branch, Subtrees, NoMore, Next, Reused, how_many, reasons_in, reasons_in_all}
use Rattle.tfpg_clause.specs.Paths.{cites, also_cited, cited_by, new_split, next_alternative, next_leaf, above_last, leaf_next, leaf_after}
use Rattle.tfpg_clause.specs.inside.MarkedTrees.{MarkedPlace, leaf_place, branch_place, again_place, marked_places, marked_from, IsMarkedRight}
use Rattle.tfpg_evidence.specs.declared.reason.Reason.{Reason}
use Rattle.tfpg_clause.specs.declared.path.PathSplit.{PathSplit}
use Rattle.tfpg_clause.proofs.lemmas.trees.LeafPaths.{after_both, closed_more, closed_last}
use Rattle.tfpg_clause.proofs.lemmas.alternatives.SomeAlternative.{some_alternative}
use Rattle.tfpg_clause.proofs.lemmas.trees.Marks.{cited_both, cited_none, cited_push}

-- the steps of some places
abbrev pub steps_of_places : List MarkedPlace → List Judged
steps_of_places all = map (λ (place : MarkedPlace). place.step) all

-- the path of the first place, and else this one
abbrev pub first_path : Option (List PathSplit) → List MarkedPlace → Option (List PathSplit)
first_path end [] = end
first_path end (place ∷ others) = Some place.path

-- The path without its deepest split is the one before that split.
pub above_push : (path : List PathSplit) (split : PathSplit) → above_last (path ++ split ∷ []) ≡ path
above_push path split = take_at path (split ∷ []) (length (path ++ split ∷ []) - 1) (omega (arith, length-append path (split ∷ [])))

module _ (case : Case) where
  abbrev after : Option (List PathSplit) → List Judged → Option (List PathSplit)
  after leaf steps = leaf_after case leaf steps

  -- after the subtree of an alternative: on to the next, if there is one
  past_first : (path : List PathSplit) (split : PathSplit) (others : Subtrees) (mid back : List MarkedPlace)
      → split.alternative + suc (how_many others) ≡ split.alternatives + 1
      → marked_from path (next_alternative split) others ≡ mid ++ back
      → (0 < how_many others → after (Some (path ++ next_alternative split ∷ [])) (steps_of_places mid) ≡ first_path
      (next_leaf (cited_by (reasons_in_all others) path)) back)
      → after (next_leaf (path ++ split ∷ [])) (steps_of_places mid) ≡ first_path (next_leaf (cited_by (reasons_in_all others) path)) back
  past_first path split NoMore [] [] last same next = closed_last path split (omega arith) ∙ ap next_leaf (sym (cited_none 1 path))
  past_first path split NoMore [] (b ∷ back) last same next = absurd cc
  past_first path split NoMore (m ∷ mid) back last same next = absurd cc
  past_first path split (Next tree others) mid back last same next =
      ap (λ (leaf : Option (List PathSplit)). after leaf (steps_of_places mid)) (closed_more path split (omega arith)) ∙ next (omega arith)
  past_first path split (Reused seen others) mid back last same next =
      ap (λ (leaf : Option (List PathSplit)). after leaf (steps_of_places mid)) (closed_more path split (omega arith)) ∙ next (omega arith)

  -- where a subtree is reused, the deepest split is left
  walk_again : (path : List PathSplit) (split : PathSplit) (seen : ℕ) (front back : List MarkedPlace)
      → again_place (path ++ split ∷ []) seen ∷ [] ≡ front ++ back
      → after (Some (path ++ split ∷ [])) (steps_of_places front) ≡ first_path (next_leaf (cited_by [] path)) back
  walk_again path split seen [] back same = ap (first_path (next_leaf (cited_by [] path))) same
  walk_again path split seen (f ∷ []) [] same =
      let head : again_place (path ++ split ∷ []) seen ≡ f = cc in
      ap (λ (p : MarkedPlace). leaf_next case (path ++ split ∷ []) p.step.seen p.step.step) (sym head)
      ∙ ap next_leaf (above_push path split ∙ sym (cited_none 1 path))
  walk_again path split seen (f ∷ []) (b ∷ back) same = absurd cc
  walk_again path split seen (f ∷ g ∷ front) back same = absurd cc

  mutual
    -- Where the places of a tree are cut in two, the steps of the front lead to the path of the first place of the back.
    pub walk_tree : (path : List PathSplit) (tree : Tree) (front back : List MarkedPlace) → marked_places path tree ≡ front ++ back
        → All (IsMarkedRight case) front
        → after (Some path) (steps_of_places front) ≡ first_path (next_leaf (cited_by (reasons_in tree) path)) back
    walk_tree path (Leaf seen reasons) [] back same right = ap (first_path (next_leaf (cited_by reasons path))) same
    walk_tree path (Leaf seen reasons) (f ∷ []) [] same right =
        let head : leaf_place path seen reasons ≡ f = cc in
        ap (λ (p : MarkedPlace). leaf_next case path p.step.seen p.step.step) (sym head)
    walk_tree path (Leaf seen reasons) (f ∷ []) (b ∷ back) same right = absurd cc
    walk_tree path (Leaf seen reasons) (f ∷ g ∷ front) back same right = absurd cc
    walk_tree path (Branch seen name subtrees) [] back same right =
        ap (first_path (next_leaf (cited_by (reasons_in_all subtrees) path))) same
    walk_tree path (Branch seen name subtrees) (f ∷ front) back same right =
        let head : f ≡ branch_place path seen name (how_many subtrees) = cc in
        let split : PathSplit = new_split name (how_many subtrees) in
        let tail : marked_from path split subtrees ≡ front ++ back = cc in
        let count : count_of case.graph (first_events case.log seen) name ≡ Some (how_many subtrees) =
        subst (IsMarkedRight case) head (All-head (IsMarkedRight case) f front right) in
        ap (λ (p : MarkedPlace). after (leaf_next case path p.step.seen p.step.step) (steps_of_places front)) head
        ∙ ap (λ (c : Option ℕ). after (option_map (λ (n : ℕ). path ++ new_split name n ∷ []) c) (steps_of_places front)) count
        ∙ walk_from path split subtrees front back tail (All-tail (IsMarkedRight case) f front right) (omega arith)
        (some_alternative case.graph (first_events case.log seen) name (how_many subtrees) count)

    walk_from : (path : List PathSplit) (split : PathSplit) (subtrees : Subtrees) (front back : List MarkedPlace)
        → marked_from path split subtrees ≡ front ++ back → All (IsMarkedRight case) front
        → split.alternative + how_many subtrees ≡ split.alternatives + 1 → 0 < how_many subtrees
        → after (Some (path ++ split ∷ [])) (steps_of_places front) ≡ first_path (next_leaf (cited_by (reasons_in_all subtrees) path)) back
    walk_from path split NoMore front back same right last some = absurd (omega arith)
    walk_from path split (Reused seen others) front back same right last some = walk_again path split seen front back same
    walk_from path split (Next tree others) front back same right last some =
        let own : List PathSplit = path ++ split ∷ [] in
        let reasons : List Reason = reasons_in tree in
        let cited : List PathSplit = cited_by reasons path in
        let taken : PathSplit = also_cited (cites reasons (length path + 1)) split in
        let both : cited_by (reasons_in_all others) cited ≡ cited_by (reasons ++ reasons_in_all others) path =
        cited_both 1 reasons (reasons_in_all others) path in
        elim (cut_twice (marked_places own tree) (marked_from cited (next_alternative taken) others) front back same) [
          | inl past ↦
              let split_right : All (IsMarkedRight case) (marked_places own tree ++ past.mid) =
              subst (All (IsMarkedRight case)) past.front_is right in
              let own_right : All (IsMarkedRight case) (marked_places own tree) =
              All-front (IsMarkedRight case) (marked_places own tree) past.mid split_right in
              ap (λ (f : List MarkedPlace). after (Some own) (steps_of_places f)) past.front_is
              ∙ ap (after (Some own)) (map-append (λ (place : MarkedPlace). place.step) (marked_places own tree) past.mid)
              ∙ after_both case (Some own) (steps_of_places (marked_places own tree)) (steps_of_places past.mid)
              ∙ ap (λ (leaf : Option (List PathSplit)). after leaf (steps_of_places past.mid))
              (walk_tree own tree (marked_places own tree) [] (sym (append-nil (marked_places own tree))) own_right
              ∙ ap next_leaf (cited_push 1 reasons path split))
              ∙ past_first cited taken others past.mid back (omega arith) past.rest_is
              (λ more. walk_from cited (next_alternative taken) others past.mid back past.rest_is
              (All-back (IsMarkedRight case) (marked_places own tree) past.mid split_right) (omega arith) more)
              ∙ ap (λ (p : List PathSplit). first_path (next_leaf p) back) both
          | inr within ↦
              walk_tree own tree front (within.here ∷ within.mid) within.xs_is right
              ∙ sym (ap (first_path (next_leaf (cited_by (reasons ++ reasons_in_all others) path))) within.back_is)
        ]
