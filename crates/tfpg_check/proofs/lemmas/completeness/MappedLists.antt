-- Lists that are made item by item of others.
use Rattle.std.proofs.Common.{◌≡◌, ℕ, ◌<◌, List, [], ◌∷◌, length, get_or, map, take, Some, slice_get, refl, sym, subst, subst₂, ◌∙◌, arith}
use Rattle.std.specs.Prelude.{flat_map}
use Rattle.std.specs.List.{All, AllPairs}
use Rattle.std.proofs.lemmas.List.{get_or-map, length-map}
use Rattle.std.proofs.lemmas.List.Elements.{All-nil, All-append, All-head, All-tail}
use Rattle.std.proofs.lemmas.Option.{same_Some, slice_get_within, slice_get-get_or}
use Rattle.tfpg_base.proofs.lemmas.lists.Elements.{AllPairs-before}

-- what holds of each item that each of some others gives
pub All-flat_map : {X Y : Type 0} (P : Y → Type 0) (f : X → List Y) (xs : List X) → All (λ x. All P (f x)) xs → All P (flat_map f xs)
All-flat_map P f [] each = All-nil P
All-flat_map P f (x ∷ xs) each = All-append P (f x) (flat_map f xs) (All-head (λ y. All P (f y)) x xs each) (All-flat_map P f xs (All-tail (λ y. All P (f y)) x xs each))

-- what relates each two images relates each two items
pub AllPairs-unmap : {X Y : Type 0} (R : Y → Y → Type 0) (f : X → Y) (xs : List X) → AllPairs R (map f xs) → AllPairs (λ a b. R (f a) (f b)) xs
AllPairs-unmap R f xs pairs i j d before within =
    let long : j < length (map f xs) = omega (arith, within, length-map xs f) in
    subst₂ R (get_or-map f xs i d (f d) (omega (arith, before, within))) (get_or-map f xs j d (f d) within) (pairs i j (f d) before long)

-- what relates each two items relates those before an index to the one there
pub AllPairs-before_at : {X : Type 0} (R : X → X → Type 0) (xs : List X) → AllPairs R xs → (index : ℕ) (x : X) → slice_get xs index ≡ Some x → All (λ earlier. R earlier x) (take index xs)
AllPairs-before_at R xs pairs index x at =
    let within = slice_get_within xs index x at in
    subst (λ y. All (λ earlier. R earlier y) (take index xs)) (same_Some (get_or xs index x) x (sym (slice_get-get_or xs index x within) ∙ at)) (AllPairs-before R xs index x pairs within)

-- images under a function that another one undoes give the items back
pub map-undone : {X Y : Type 0} (make : X → Y) (back : Y → X) → ((x : X) → back (make x) ≡ x) → (xs : List X) → map back (map make xs) ≡ xs
map-undone make back is [] = refl
map-undone make back is (x ∷ xs) = λ i. is x i ∷ map-undone make back is xs i
