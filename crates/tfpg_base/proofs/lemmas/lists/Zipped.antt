-- Two lists whose items are related one by one.
use Rattle.std.proofs.Common.{◌≡◌, List, [], ◌∷◌, ◌++◌, map, All, refl}
use Rattle.std.specs.List.{AllZip}
use Rattle.std.proofs.lemmas.List.Elements.{All-head, All-tail}

module _ {X Y : Type 0} (R : X → Y → Type 0) where
  -- one list after another
  pub AllZip-append : (xs : List X) (ys : List Y) (more : List X) (others : List Y)
      → AllZip R xs ys → AllZip R more others → AllZip R (xs ++ more) (ys ++ others)
  AllZip-append [] [] more others one other = other
  AllZip-append [] (y ∷ ys) more others one other = absurd one
  AllZip-append (x ∷ xs) [] more others one other = absurd one
  AllZip-append (x ∷ xs) (y ∷ ys) more others one other = (one.0, AllZip-append xs ys more others one.1 other)

  -- one item more of each
  pub AllZip-push : (xs : List X) (ys : List Y) (x : X) (y : Y) → AllZip R xs ys → R x y → AllZip R (xs ++ x ∷ []) (ys ++ y ∷ [])
  AllZip-push xs ys x y all last = AllZip-append xs ys (x ∷ []) (y ∷ []) all (last, tt)

  -- to no item none is related
  pub AllZip-none : (xs : List X) (ys : List Y) → xs ≡ [] → AllZip R xs ys → ys ≡ []
  AllZip-none [] [] none all = refl
  AllZip-none [] (y ∷ ys) none all = absurd all
  AllZip-none (x ∷ xs) ys none all = absurd cc

  -- items and their images
  pub AllZip-map : (f : X → Y) (xs : List X) → All (λ x. R x (f x)) xs → AllZip R xs (map f xs)
  AllZip-map f [] all = tt
  AllZip-map f (x ∷ xs) all = (All-head (λ y. R y (f y)) x xs all, AllZip-map f xs (All-tail (λ y. R y (f y)) x xs all))

  -- two images of the same items
  pub AllZip-maps : {Z : Type 0} (f : Z → X) (g : Z → Y) (zs : List Z) → All (λ z. R (f z) (g z)) zs → AllZip R (map f zs) (map g zs)
  AllZip-maps f g [] all = tt
  AllZip-maps f g (z ∷ zs) all =
      (All-head (λ y. R (f y) (g y)) z zs all, AllZip-maps f g zs (All-tail (λ y. R (f y) (g y)) z zs all))

-- where related items have the same image, so have the lists
pub map-related : {X Y Z : Type 0} (R : X → Y → Type 0) (f : X → Z) (g : Y → Z) → ((x : X) (y : Y) → R x y → g y ≡ f x)
    → (xs : List X) (ys : List Y) → AllZip R xs ys → map g ys ≡ map f xs
map-related R f g same [] [] all = refl
map-related R f g same [] (y ∷ ys) all = absurd all
map-related R f g same (x ∷ xs) [] all = absurd all
map-related R f g same (x ∷ xs) (y ∷ ys) all = λ i. same x y all.0 i ∷ map-related R f g same xs ys all.1 i
