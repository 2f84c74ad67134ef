-- What holds of the images of a list's elements under a function.
use Rattle.std.proofs.Common.{◌≡◌, ℕ, ◌<◌, Bool, ◌||◌, List, [], ◌∷◌, ◌++◌, length, map, get_or, Some, slice_get, inl, inr, ⊎_elim, refl, ap, sym, subst, arith, ◌+◌, take, ◌∙◌}
use Rattle.std.specs.List.{AllPairs, Contains, list_any, flat_map, All}
use Rattle.std.proofs.lemmas.List.{get_or-map, length-map, map_more, map_push}
use Rattle.tfpg_base.proofs.lemmas.lists.Elements.{Contains-head, Contains-tail, Contains-cons_cases, Contains-nil}
use Rattle.std.proofs.lemmas.List.Elements.{All-head, All-tail, All-nil, All-cons, Contains-append_left, Contains-append_right}
use Rattle.std.proofs.lemmas.Option.{slice_get-map}
use Rattle.tfpg_base.proofs.lemmas.lists.Choices.{option_map-some}

module _ {X Y : Type 0} (p : Y → Bool) (f : X → Y) where
  -- whether one of the images passes
  pub list_any-map : (xs : List X) → list_any p (map f xs) ≡ list_any (λ x. p (f x)) xs
  list_any-map [] = refl
  list_any-map (x ∷ xs) = ap (λ b. p (f x) || b) (list_any-map xs)

-- what relates the images of each two relates each two of the images
pub AllPairs-map : {X Y : Type 0} (R : Y → Y → Type 0) (f : X → Y) (xs : List X) → AllPairs (λ a b. R (f a) (f b)) xs → AllPairs R (map f xs)
AllPairs-map {X} {Y} R f [] pairs i j d before inside = absurd (omega arith)
AllPairs-map {X} {Y} R f (x ∷ xs) pairs i j d before inside =
    let within : j < length (x ∷ xs) = omega (arith, length-map (x ∷ xs) f) in
    let earlier : i < length (x ∷ xs) = omega arith in
    subst (λ (a : Y). R a (get_or (map f (x ∷ xs)) j d)) (sym (get_or-map f (x ∷ xs) i x d earlier))
    (subst (λ (b : Y). R (f (get_or (x ∷ xs) i x)) b) (sym (get_or-map f (x ∷ xs) j x d within)) (pairs i j x before within))

module _ {X Y : Type 0} (f : X → Y) where
  -- the image of what stands in a list stands among the images
  pub Contains-map : (xs : List X) (x : X) → Contains xs x → Contains (map f xs) (f x)
  Contains-map [] x member = absurd (Contains-nil x member)
  Contains-map (first ∷ others) x member =
      ⊎_elim (λ is. subst (λ (y : Y). Contains (f first ∷ map f others) y) (ap f is)
      (Contains-head (f first) (map f others)))
      (λ after. Contains-tail (f first) (map f others) (f x) (Contains-map others x after))
      (Contains-cons_cases first others x member)

  -- what stands among the images is the image of what stands in the list
  pub Contains-map_only : (xs : List X) (y : Y) → Contains (map f xs) y → (x : X) × Contains xs x × (f x ≡ y)
  Contains-map_only [] y member = absurd (Contains-nil y member)
  Contains-map_only (first ∷ others) y member =
      ⊎_elim (λ is. (first, Contains-head first others, is))
      (λ after. let old = Contains-map_only others y after in (old.0, Contains-tail first others old.0 old.1, old.2))
      (Contains-cons_cases (f first) (map f others) y member)

-- equal images are those of equal items, where the function is injective
pub map-injective : {X Y : Type 0} (P : X → Type 0) (f : X → Y) → ((a b : X) → P a → P b → f a ≡ f b → a ≡ b)
    → (xs ys : List X) → All P xs → All P ys → map f xs ≡ map f ys → xs ≡ ys
map-injective P f apart [] [] of too e = refl
map-injective P f apart [] (y ∷ ys) of too e = absurd cc
map-injective P f apart (x ∷ xs) [] of too e = absurd cc
map-injective P f apart (x ∷ xs) (y ∷ ys) of too e =
    let head : f x ≡ f y = cc in
    let tail : map f xs ≡ map f ys = cc in
    let firsts : x ≡ y = apart x y (All-head P x xs of) (All-head P y ys too) head in
    let others : xs ≡ ys = map-injective P f apart xs ys (All-tail P x xs of) (All-tail P y ys too) tail in
    ap (λ z. z ∷ xs) firsts ∙ ap (λ zs. y ∷ zs) others

-- what a function gives of what another gives
pub map-map : {X Y Z : Type 0} (g : Y → Z) (f : X → Y) (xs : List X) → map g (map f xs) ≡ map (λ (x : X). g (f x)) xs
map-map g f [] = refl
map-map g f (x ∷ xs) = ap (λ zs. g (f x) ∷ zs) (map-map g f xs)

-- what an image at an index comes from
pub slice_get-map_only : {X Y : Type 0} (f : X → Y) (xs : List X) (n : ℕ) (y : Y) → slice_get (map f xs) n ≡ Some y → (x : X) × (slice_get xs n ≡ Some x) × (f x ≡ y)
slice_get-map_only f xs n y at = option_map-some f (slice_get xs n) y (sym (slice_get-map f xs n) ∙ at)

-- what holds of each image holds of each item that it comes from
pub All-unmap : {X Y : Type 0} (P : X → Type 0) (f : Y → X) (ys : List Y) → All P (map f ys) → All (λ y. P (f y)) ys
All-unmap P f [] all = All-nil (λ y. P (f y))
All-unmap P f (y ∷ ys) all = All-cons (λ z. P (f z)) y ys (All-head P (f y) (map f ys) all) (All-unmap P f ys (All-tail P (f y) (map f ys) all))

-- ---- lists that each item gives

-- what stands in the list of one item stands in that of all
pub Contains-flat_map : {X Y : Type 0} (f : X → List Y) (xs : List X) (x : X) (y : Y) → Contains xs x → Contains (f x) y → Contains (flat_map f xs) y
Contains-flat_map f [] x y member there = absurd (Contains-nil x member)
Contains-flat_map f (z ∷ xs) x y member there = elim (Contains-cons_cases z xs x member) [
  | inl is ↦ Contains-append_left (f z) (flat_map f xs) y (subst (λ w. Contains (f w) y) (sym is) there)
  | inr later ↦ Contains-append_right (f z) (flat_map f xs) y (Contains-flat_map f xs x y later there)
]

-- lists that are the same item by item
pub flat_map-same : {X Y : Type 0} (f g : X → List Y) (xs : List X) → All (λ x. f x ≡ g x) xs → flat_map f xs ≡ flat_map g xs
flat_map-same f g [] same = refl
flat_map-same f g (x ∷ xs) same = λ i. All-head (λ y. f y ≡ g y) x xs same i ++ flat_map-same f g xs (All-tail (λ y. f y ≡ g y) x xs same) i

-- the images of images, with one item more
pub map-map_more : {X Y Z : Type 0} (g : Y → Z) (f : X → Y) (xs : List X) (i : ℕ) (d : X) → i < length xs
    → map g (map f (take (i + 1) xs)) ≡ map g (map f (take i xs)) ++ g (f (get_or xs i d)) ∷ []
map-map_more g f xs i d within = ap (map g) (map_more f xs i d within) ∙ map_push g (map f (take i xs)) (f (get_or xs i d))
