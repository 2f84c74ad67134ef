-- Lists in which each item is related to all later ones, and what numbers their items have.
use Rattle.std.proofs.Common.{◌≡◌, ℕ, ◌<◌, List, [], ◌∷◌, length, map, get_or, take, All, Some, slice_get, refl, subst, ◌∙◌, arith}
use Rattle.std.specs.List.{AllPairs, Contains}
use Rattle.std.proofs.lemmas.List.{get_or-take, length-take}
use Rattle.std.proofs.lemmas.List.Elements.{All-head, All-tail}
use Rattle.std.proofs.lemmas.Option.{slice_get-get_or}
use Rattle.tfpg_base.proofs.lemmas.lists.Ordered.{same_in_order}

-- what relates each item before an index to the one there relates each two
pub AllPairs-from_before : {X : Type 0} (R : X → X → Type 0) (xs : List X) → ((index : ℕ) (x : X) → slice_get xs index ≡ Some x → All (λ (earlier : X). R earlier x) (take index xs))
    → AllPairs R xs
AllPairs-from_before R xs each i j d before within =
    let less : i < length (take j xs) = omega (arith, before, within, length-take j xs) in
    subst (λ x. R x (get_or xs j d)) (get_or-take j xs i d before) (each j (get_or xs j d) (slice_get-get_or xs j d within) i d less)

-- what relates the items of each two indexes relates each two
pub AllPairs-from_indexes : {X : Type 0} (R : X → X → Type 0) (xs : List X) → ((i j : ℕ) (x y : X) → i < j → slice_get xs i ≡ Some x → slice_get xs j ≡ Some y → R x y) → AllPairs R xs
AllPairs-from_indexes R xs each i j d before within =
    each i j (get_or xs i d) (get_or xs j d) before (slice_get-get_or xs i d (omega (arith, before, within))) (slice_get-get_or xs j d within)

-- lists whose items have rising numbers are equal where each item of the one stands in the other
pub same_by_number : {X : Type 0} (number : X → ℕ) (xs ys : List X) → AllPairs (λ a b. number a < number b) xs → AllPairs (λ a b. number a < number b) ys
    → ((x : X) → Contains xs x → Contains ys x) → ((x : X) → Contains ys x → Contains xs x) → xs ≡ ys
same_by_number number xs ys rising also to from = same_in_order (λ a b. number a < number b) (λ a b less more. omega (arith, less, more)) xs ys rising also to from

-- what is the same as an item, along two paths, stands in the list
pub Contains-along : {X : Type 0} (xs : List X) (x y z : X) → x ≡ y → y ≡ z → Contains xs x → Contains xs z
Contains-along xs x y z first then member = subst (Contains xs) (first ∙ then) member

-- images that are the same one by one
pub map-same : {X Y : Type 0} (f g : X → Y) (xs : List X) → All (λ x. f x ≡ g x) xs → map f xs ≡ map g xs
map-same f g [] same = refl
map-same f g (x ∷ xs) same = λ i. All-head (λ y. f y ≡ g y) x xs same i ∷ map-same f g xs (All-tail (λ y. f y ≡ g y) x xs same) i
