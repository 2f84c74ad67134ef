-- The data of the items of a list so far, and of one item more.
use Rattle.std.proofs.Common.{◌≡◌, ℕ, ◌+◌, ◌<◌, Bool, true, false, List, [], ◌∷◌, ◌++◌, length, get_or, map, filter, take, Option, Some, None, filter_map, slice_get, refl, sym, ap, ◌∙◌}
use Rattle.std.specs.List.{cons_option}
use Rattle.std.specs.Option.{option_and_then}
use Rattle.std.proofs.lemmas.List.{map-append, take_more}
use Rattle.std.proofs.lemmas.List.Elements.{filter_map-append}
use Rattle.std.proofs.lemmas.Option.{get_or_from_slice_get, slice_get_within}
use Rattle.tfpg_base.proofs.lemmas.lists.Filtered.{filter-push_no, filter-push_yes}

module _ {X D : Type 0} (f : X → D) (xs : List X) where
  -- that of the items before a number, and of the item there
  pub item_next : (number : ℕ) (x : X) → slice_get xs number ≡ Some x → map f (take (number + 1) xs) ≡ map f (take number xs) ++ f x ∷ []
  item_next number x at =
      ap (map f) (take_more xs number x (slice_get_within xs number x at) ∙ ap (λ y. take number xs ++ y ∷ []) (get_or_from_slice_get xs number x x at))
      ∙ map-append f (take number xs) (x ∷ [])

  module _ (passes : X → Bool) (index : ℕ) (x : X) (within : index < length xs) (at : x ≡ get_or xs index x) where
    next_item : take (index + 1) xs ≡ take index xs ++ x ∷ []
    next_item = take_more xs index x within ∙ ap (λ y. take index xs ++ y ∷ []) (sym at)

    -- that of the items that pass, and of one more that passes
    pub passing_next : passes x ≡ true → map f (filter passes (take (index + 1) xs)) ≡ map f (filter passes (take index xs)) ++ f x ∷ []
    passing_next pass =
        ap (map f) (ap (filter passes) next_item ∙ filter-push_yes passes (take index xs) x pass) ∙ map-append f (filter passes (take index xs)) (x ∷ [])

    -- one that fails has none
    pub failing_next : passes x ≡ false → map f (filter passes (take (index + 1) xs)) ≡ map f (filter passes (take index xs))
    failing_next fail = ap (map f) (ap (filter passes) next_item ∙ filter-push_no passes (take index xs) x fail)

module _ {X D : Type 0} (look : ℕ → Option X) (f : X → Option D) (numbers : List ℕ) (index d : ℕ) (within : index < length numbers) where
  -- what one number more brings, where something is found
  pub found_next : filter_map f (filter_map look (take (index + 1) numbers))
      ≡ filter_map f (filter_map look (take index numbers)) ++ cons_option (option_and_then f (look (get_or numbers index d))) []
  found_next =
      ap (λ ns. filter_map f (filter_map look ns)) (take_more numbers index d within)
      ∙ ap (filter_map f) (filter_map-append look (take index numbers) (get_or numbers index d ∷ []))
      ∙ filter_map-append f (filter_map look (take index numbers)) (cons_option (look (get_or numbers index d)) [])
      ∙ ap (λ ds. filter_map f (filter_map look (take index numbers)) ++ ds) (by (look (get_or numbers index d)))
    where
      by : (found : Option X) → filter_map f (cons_option found []) ≡ cons_option (option_and_then f found) []
      by None = refl
      by (Some x) = refl
