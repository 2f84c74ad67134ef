-- A tree with another subtree in one of its places, or with one that is reused there.
use Rattle.std.proofs.Common.{◌≡◌, ℕ, zero, suc, ◌+◌, List, [], ◌∷◌, ◌++◌, length, refl, sym, ap, ◌∙◌, inl, inr, append_assoc}
use Rattle.std.proofs.lemmas.List.{append-nil}
use Rattle.tfpg_base.proofs.lemmas.lists.Cuts.{cut_twice, append_cons-not_nil}
use Rattle.tfpg_evidence.specs.declared.reason.Reason.{Reason}
use Rattle.tfpg_clause.specs.Trees.{Tree, Leaf, Branch, Subtrees, NoMore, Next, Reused, how_many, reasons_in}
use Rattle.tfpg_clause.specs.Paths.{cited_by, new_split}
use Rattle.tfpg_clause.specs.inside.MarkedTrees.{MarkedPlace, leaf_place, branch_place, again_place, after_subtree, marked_places, marked_from}
use Rattle.tfpg_clause.specs.declared.path.PathSplit.{PathSplit}

-- a tree that begins with the same places and goes on with these
pub record Grafted (path : List PathSplit) (front middle : List MarkedPlace) : Type 0 where
  pub tree : Tree
  pub rest : List MarkedPlace
  pub is : marked_places path tree ≡ front ++ (middle ++ rest)

-- so many subtrees that do
pub record GraftedIn (path : List PathSplit) (split : PathSplit) (count : ℕ) (front middle : List MarkedPlace) : Type 0 where
  pub subtrees : Subtrees
  pub rest : List MarkedPlace
  pub many : how_many subtrees ≡ count
  pub is : marked_from path split subtrees ≡ front ++ (middle ++ rest)

-- ---- what is put in the place

-- so many leaves
pub some_leaves : ℕ → Subtrees
some_leaves zero = NoMore
some_leaves (suc n) = Next (Leaf 0 []) (some_leaves n)

-- There are so many.
pub so_many : (n : ℕ) → how_many (some_leaves n) ≡ n
unfolding some_leaves
so_many zero = refl
so_many (suc n) = ap (λ (k : ℕ). suc k) (so_many n)

-- What is put in a place: a tree, or the one before it once more.
pub data Fresh : Type 0 where
  Grown : (tree : Tree) → Fresh
  Again : (seen : ℕ) → Fresh

-- its places
abbrev pub fresh_places : List PathSplit → Fresh → List MarkedPlace
fresh_places path (Grown tree) = marked_places path tree
fresh_places path (Again seen) = again_place path seen ∷ []

-- It begins the subtrees of an alternative and of so many others.
fresh_in : (path : List PathSplit) (split : PathSplit) (others : ℕ) (fresh : Fresh)
    → GraftedIn path split (suc others) [] (fresh_places (path ++ split ∷ []) fresh)
fresh_in path split others (Grown tree) = record {
  subtrees = Next tree (some_leaves others);
  rest = marked_from (cited_by (reasons_in tree) path) (after_subtree (length path + 1) (reasons_in tree) split) (some_leaves others);
  many = ap (λ (k : ℕ). suc k) (so_many others);
  is = refl;
}
fresh_in path split others (Again seen) = record { subtrees = Reused seen others; rest = []; many = refl; is = refl }

fresh_here : (path : List PathSplit) (split : PathSplit) (others : ℕ) (here : MarkedPlace) (fresh : Fresh) → here.path ≡ path ++ split ∷ []
    → GraftedIn path split (suc others) [] (fresh_places here.path fresh)
fresh_here path split others here fresh same =
    let grafted = fresh_in path split others fresh in
    record {
      subtrees = grafted.subtrees;
      rest = grafted.rest;
      many = grafted.many;
      is = grafted.is ∙ ap (λ (p : List PathSplit). fresh_places p fresh ++ grafted.rest) (sym same);
    }

-- ---- the place

-- the first place of a tree has the path of the tree
first_here : (path : List PathSplit) (tree : Tree) (here : MarkedPlace) (back : List MarkedPlace) → marked_places path tree ≡ here ∷ back
    → here.path ≡ path
first_here path (Leaf seen reasons) here back same =
    let head : here ≡ leaf_place path seen reasons = cc in ap (λ (p : MarkedPlace). p.path) head
first_here path (Branch seen name subtrees) here back same =
    let head : here ≡ branch_place path seen name (how_many subtrees) = cc in
    ap (λ (p : MarkedPlace). p.path) head

-- in the first of some subtrees, where one knows of the places below its first
graft_within : (path : List PathSplit) (split : PathSplit) (tree : Tree) (others : Subtrees) (front : List MarkedPlace) (here : MarkedPlace)
    (back : List MarkedPlace) (fresh : Fresh)
    → ((first : MarkedPlace) (more : List MarkedPlace) → marked_places (path ++ split ∷ []) tree ≡ first ∷ (more ++ here ∷ back)
    → Grafted (path ++ split ∷ []) (first ∷ more) (fresh_places here.path fresh))
    → marked_places (path ++ split ∷ []) tree ≡ front ++ here ∷ back
    → GraftedIn path split (suc (how_many others)) front (fresh_places here.path fresh)
graft_within path split tree others [] here back fresh below same =
    fresh_here path split (how_many others) here fresh (first_here (path ++ split ∷ []) tree here back same)
graft_within path split tree others (f ∷ front) here back fresh below same =
    let grafted = below f front same in
    let later : List MarkedPlace =
    marked_from (cited_by (reasons_in grafted.tree) path) (after_subtree (length path + 1) (reasons_in grafted.tree) split) others in
    record {
      subtrees = Next grafted.tree others;
      rest = grafted.rest ++ later;
      many = refl;
      is =
          ap (λ (ps : List MarkedPlace). ps ++ later) grafted.is
          ∙ append_assoc (f ∷ front) (fresh_places here.path fresh ++ grafted.rest) later
          ∙ ap (λ (ps : List MarkedPlace). f ∷ (front ++ ps)) (append_assoc (fresh_places here.path fresh) grafted.rest later);
    }

mutual
  -- below the first place of a tree
  graft_below : (path : List PathSplit) (tree : Tree) (first : MarkedPlace) (front : List MarkedPlace) (here : MarkedPlace)
      (back : List MarkedPlace) (fresh : Fresh)
      → marked_places path tree ≡ first ∷ (front ++ here ∷ back) → Grafted path (first ∷ front) (fresh_places here.path fresh)
  graft_below path (Leaf seen reasons) first front here back fresh same =
      let tail : [] ≡ front ++ here ∷ back = cc in absurd (append_cons-not_nil front here back tail)
  graft_below path (Branch seen name subtrees) first front here back fresh same =
      let own : MarkedPlace = branch_place path seen name (how_many subtrees) in
      let head : own ≡ first = cc in
      let tail : marked_from path (new_split name (how_many subtrees)) subtrees ≡ front ++ here ∷ back = cc in
      let below = graft_in path (new_split name (how_many subtrees)) subtrees front here back fresh tail in
      record {
        tree = Branch seen name below.subtrees;
        rest = below.rest;
        is =
            ap (λ (count : ℕ). branch_place path seen name count ∷ marked_from path (new_split name count) below.subtrees) below.many
            ∙ ap (λ (p : MarkedPlace). p ∷ marked_from path (new_split name (how_many subtrees)) below.subtrees) head
            ∙ ap (λ (ps : List MarkedPlace). first ∷ ps) below.is;
      }

  -- among subtrees
  graft_in : (path : List PathSplit) (split : PathSplit) (subtrees : Subtrees) (front : List MarkedPlace) (here : MarkedPlace)
      (back : List MarkedPlace) (fresh : Fresh)
      → marked_from path split subtrees ≡ front ++ here ∷ back
      → GraftedIn path split (how_many subtrees) front (fresh_places here.path fresh)
  graft_in path split NoMore front here back fresh same = absurd (append_cons-not_nil front here back same)
  graft_in path split (Reused seen others) [] here back fresh same =
      let head : here ≡ again_place (path ++ split ∷ []) seen = cc in
      fresh_here path split others here fresh (ap (λ (p : MarkedPlace). p.path) head)
  graft_in path split (Reused seen others) (f ∷ front) here back fresh same =
      let tail : [] ≡ front ++ here ∷ back = cc in absurd (append_cons-not_nil front here back tail)
  graft_in path split (Next tree others) front here back fresh same =
      let own : List PathSplit = path ++ split ∷ [] in
      let reasons : List Reason = reasons_in tree in
      let next_path : List PathSplit = cited_by reasons path in
      let next_split : PathSplit = after_subtree (length path + 1) reasons split in
      elim (cut_twice (marked_places own tree) (marked_from next_path next_split others) front (here ∷ back) same) [
        | inl past ↦
            let later = graft_in next_path next_split others past.mid here back fresh past.rest_is in
            record {
              subtrees = Next tree later.subtrees;
              rest = later.rest;
              many = ap (λ (n : ℕ). suc n) later.many;
              is =
                  ap (λ (ps : List MarkedPlace). marked_places own tree ++ ps) later.is
                  ∙ sym (append_assoc (marked_places own tree) past.mid (fresh_places here.path fresh ++ later.rest))
                  ∙ ap (λ (ps : List MarkedPlace). ps ++ (fresh_places here.path fresh ++ later.rest)) (sym past.front_is);
            }
        | inr within ↦
            let back_is : here ∷ back ≡ within.here ∷ (within.mid ++ marked_from next_path next_split others) = within.back_is in
            let head : within.here ≡ here = cc in
            graft_within path split tree others front here within.mid fresh
            (λ first more whole. graft_below own tree first more here within.mid fresh whole)
            (within.xs_is ∙ ap (λ (p : MarkedPlace). front ++ p ∷ within.mid) head)
      ]

-- In place of the tree at one of its places another tree may stand: up to there the places stay.
pub graft : (path : List PathSplit) (tree : Tree) (front : List MarkedPlace) (here : MarkedPlace) (back : List MarkedPlace) (new : Tree)
    → marked_places path tree ≡ front ++ here ∷ back → Grafted path front (marked_places here.path new)
graft path tree [] here back new same = record {
  tree = new;
  rest = [];
  is =
      ap (λ (p : List PathSplit). marked_places p new) (sym (first_here path tree here back same))
      ∙ sym (append-nil (marked_places here.path new));
}
graft path tree (f ∷ front) here back new same = graft_below path tree f front here back (Grown new) same

-- Below the root a subtree may be reused there.
pub graft_again : (tree : Tree) (front : List MarkedPlace) (here : MarkedPlace) (back : List MarkedPlace) (seen : ℕ) → (here.path ≡ [] → ⊥)
    → marked_places [] tree ≡ front ++ here ∷ back → Grafted [] front (again_place here.path seen ∷ [])
graft_again tree [] here back seen below same = absurd (below (first_here [] tree here back same))
graft_again tree (f ∷ front) here back seen below same = graft_below [] tree f front here back (Again seen) same
