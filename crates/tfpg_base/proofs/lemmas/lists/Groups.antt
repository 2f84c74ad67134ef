-- Lists made of groups, each of them an item that passes a test and then items that fail it.
use Rattle.std.proofs.Common.{◌≡◌, Bool, true, false, List, [], ◌∷◌, ◌++◌, map, refl, sym, ◌∙◌, subst}
use Rattle.std.specs.List.{All, flat_map}
use Rattle.std.proofs.lemmas.Bool.{false≢true}
use Rattle.std.proofs.lemmas.List.Elements.{All-head, All-tail}

module _ {X : Type 0} (p : X → Bool) where
  -- The list is empty, or begins with an item that passes.
  abbrev pub BeginsPassing : List X → Type 0
  BeginsPassing [] = Unit {0}
  BeginsPassing (x ∷ xs) = p x ≡ true

  -- Equal lists, each of a front in which all fail and a rest that is empty or begins with what passes, have the same fronts and rests.
  pub same_parts : (xs ys us vs : List X) → All (λ x. p x ≡ false) xs → All (λ x. p x ≡ false) us → BeginsPassing ys → BeginsPassing vs
      → xs ++ ys ≡ us ++ vs → (xs ≡ us) × (ys ≡ vs)
  same_parts [] ys [] vs fail too begins also same = (refl, same)
  same_parts [] ys (u ∷ us) vs fail too begins also same =
      absurd (false≢true (sym (All-head (λ x. p x ≡ false) u us too) ∙ subst BeginsPassing same begins))
  same_parts (x ∷ xs) ys [] vs fail too begins also same =
      absurd (false≢true (sym (All-head (λ x. p x ≡ false) x xs fail) ∙ subst BeginsPassing (sym same) also))
  same_parts (x ∷ xs) ys (u ∷ us) vs fail too begins also same =
      let head : x ≡ u = cc in
      let tail : xs ++ ys ≡ us ++ vs = cc in
      let rest = same_parts xs ys us vs (All-tail (λ x. p x ≡ false) x xs fail) (All-tail (λ x. p x ≡ false) u us too) begins also tail in
      (λ i. head i ∷ rest.0 i, rest.1)

  module _ {A : Type 0} (first : A → X) (others : A → List X) where
    -- a group
    abbrev pub group : A → List X
    group a = first a ∷ others a

    -- the groups of these are groups
    pub record AreGroups (items : List A) : Type 0 where
      pub first_passes : All (λ a. p (first a) ≡ true) items
      pub others_fail : All (λ a. All (λ x. p x ≡ false) (others a)) items

    tail_groups : (a : A) (items : List A) → AreGroups (a ∷ items) → AreGroups items
    tail_groups a items are = record {
      first_passes = All-tail (λ a. p (first a) ≡ true) a items are.first_passes;
      others_fail = All-tail (λ a. All (λ x. p x ≡ false) (others a)) a items are.others_fail;
    }

    begins : (items : List A) → AreGroups items → BeginsPassing (flat_map group items)
    begins [] are = tt
    begins (a ∷ items) are = All-head (λ a. p (first a) ≡ true) a items are.first_passes

    -- Groups that are the same end to end are the same one by one.
    pub same_groups : (items more : List A) → AreGroups items → AreGroups more → flat_map group items ≡ flat_map group more → map group items ≡ map group more
    same_groups [] [] are too same = refl
    same_groups [] (b ∷ more) are too same = absurd cc
    same_groups (a ∷ items) [] are too same = absurd cc
    same_groups (a ∷ items) (b ∷ more) are too same =
        let head : first a ≡ first b = cc in
        let tail : others a ++ flat_map group items ≡ others b ++ flat_map group more = cc in
        let parts = same_parts (others a) (flat_map group items) (others b) (flat_map group more)
        (All-head (λ a. All (λ x. p x ≡ false) (others a)) a items are.others_fail) (All-head (λ a. All (λ x. p x ≡ false) (others a)) b more too.others_fail)
        (begins items (tail_groups a items are)) (begins more (tail_groups b more too)) tail in
        let rest = same_groups items more (tail_groups a items are) (tail_groups b more too) parts.1 in
        λ i. (head i ∷ parts.0 i) ∷ rest i
