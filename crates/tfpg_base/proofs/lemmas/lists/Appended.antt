-- What was appended to a list, by one turn after another.
use Rattle.std.proofs.Common.{◌≡◌, ℕ, ◌+◌, ◌<◌, ◌≤◌, List, [], ◌++◌, length, get_or, take, Some, slice_get, sym, ap, ◌∙◌, append_assoc, ◌∷◌}
use Rattle.std.specs.List.{flat_map}
use Rattle.std.proofs.lemmas.List.{append-nil, take_more, take_all, flat_map_more}
use Rattle.std.proofs.lemmas.Option.{get_or_from_slice_get, slice_get_within}

module _ {X : Type 0} where
  -- what begins with a list that begins with another begins with that one
  pub kept_after : (old mid new text : List X) → mid ≡ old ++ text → (rest : List X) × (new ≡ mid ++ rest) → (rest : List X) × (new ≡ old ++ rest)
  kept_after old mid new text e h = (text ++ h.0, h.1 ∙ ap (λ (t : List X). t ++ h.0) e ∙ append_assoc old text h.0)

  -- a list that stays begins with itself
  pub kept_same : (old new : List X) → new ≡ old → (rest : List X) × (new ≡ old ++ rest)
  kept_same old new e = ([], e ∙ sym (append-nil old))

  -- what two turns append
  pub appended_after : (old mid new a b : List X) → mid ≡ old ++ a → new ≡ mid ++ b → new ≡ old ++ (a ++ b)
  appended_after old mid new a b e h = h ∙ ap (λ (t : List X). t ++ b) e ∙ append_assoc old a b

module _ {X Y : Type 0} (f : X → List Y) (xs : List X) where
  -- the lists of the items before an index, and after them that of the item there
  pub appended_more : (index : ℕ) (d : X) (old mid new : List Y) → index < length xs
      → mid ≡ old ++ flat_map f (take index xs) → new ≡ mid ++ f (get_or xs index d) → new ≡ old ++ flat_map f (take (index + 1) xs)
  appended_more index d old mid new lt e h =
      h ∙ ap (λ (t : List Y). t ++ f (get_or xs index d)) e ∙ flat_map_more f old (take index xs) (get_or xs index d)
      ∙ ap (λ ys. old ++ flat_map f ys) (sym (take_more xs index d lt))

  -- the same, where the item at the index is known
  pub appended_next : (number : ℕ) (x : X) (old mid new : List Y) → slice_get xs number ≡ Some x
      → mid ≡ old ++ flat_map f (take number xs) → new ≡ mid ++ f x → new ≡ old ++ flat_map f (take (number + 1) xs)
  appended_next number x old mid new at e h =
      appended_more number x old mid new (slice_get_within xs number x at) e (h ∙ ap (λ y. mid ++ f y) (sym (get_or_from_slice_get xs number x x at)))

  -- the lists of all items
  pub appended_all : (index : ℕ) (old new : List Y) → length xs ≤ index → new ≡ old ++ flat_map f (take index xs) → new ≡ old ++ flat_map f xs
  appended_all index old new le e = e ∙ ap (λ ys. old ++ flat_map f ys) (take_all index xs le)

-- five lists one after another, grouped from the front
pub append-five_grouped : {X : Type 0} (a b c d e : List X) → a ++ (((b ++ c) ++ d) ++ e) ≡ a ++ b ++ c ++ d ++ e
append-five_grouped a b c d e = simp append_assoc

module _ {X : Type 0} (first second third : List X) (x : X) where
  -- one item more, after the first, the second, the third or all of three lists, where nothing else follows
  pub append-first_of_four : (all : List X) → all ≡ first ++ second ++ third ++ [] → second ≡ [] → third ≡ []
      → all ++ x ∷ [] ≡ (first ++ x ∷ []) ++ second ++ [] ++ []
  append-first_of_four all is no_second no_third =
      ap (λ front. front ++ x ∷ []) (is ∙ append-nil _ ∙ (λ i. first ++ no_second i ++ no_third i) ∙ append-nil _ ∙ append-nil _)
      ∙ sym (append-nil _ ∙ append-nil _ ∙ (λ i. (first ++ x ∷ []) ++ no_second i) ∙ append-nil _)

  pub append-second_of_four : (all : List X) → all ≡ first ++ second ++ third ++ [] → third ≡ []
      → all ++ x ∷ [] ≡ first ++ (second ++ x ∷ []) ++ [] ++ []
  append-second_of_four all is no_third =
      ap (λ front. front ++ x ∷ []) (is ∙ append-nil _ ∙ (λ i. first ++ second ++ no_third i) ∙ append-nil _)
      ∙ append_assoc first second (x ∷ []) ∙ sym (append-nil _ ∙ append-nil _)

  pub append-third_of_four : (all : List X) → all ≡ first ++ second ++ third ++ []
      → all ++ x ∷ [] ≡ first ++ second ++ (third ++ x ∷ []) ++ []
  append-third_of_four all is =
      ap (λ front. front ++ x ∷ []) (is ∙ append-nil _) ∙ append_assoc (first ++ second) third (x ∷ []) ∙ sym (append-nil _)

  pub append-fourth_of_four : (all : List X) → all ≡ first ++ second ++ third ++ []
      → all ++ x ∷ [] ≡ first ++ second ++ third ++ x ∷ []
  append-fourth_of_four all is = ap (λ front. front ++ x ∷ []) (is ∙ append-nil _)
