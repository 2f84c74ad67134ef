-- A list with something for each item of another list.
use Rattle.std.proofs.Common.{◌≡◌, ℕ, zero, suc, List, [], ◌∷◌, length, Some, slice_get, refl, ap, subst}
use Rattle.std.proofs.lemmas.Option.{none-some, same_Some}

-- As many, and each has this to do with the item at its index.
pub record AreOneForEach {X Y : Type 0} (P : ℕ → X → Y → Type 0) (xs : List X) (ys : List Y) : Type 0 where
  pub as_many : length ys ≡ length xs
  pub each : (index : ℕ) (x : X) (y : Y) → slice_get xs index ≡ Some x → slice_get ys index ≡ Some y → P index x y

-- Where there is something for the item at each index, there is a list of them.
pub one_for_each : {X Y : Type 0} (P : ℕ → X → Y → Type 0) (xs : List X) → ((index : ℕ) (x : X) → slice_get xs index ≡ Some x → (y : Y) × P index x y)
    → (ys : List Y) × AreOneForEach P xs ys
one_for_each P [] there = ([], record { as_many = refl; each = λ index x y at. absurd (none-some x at) })
one_for_each {X} {Y} P (first ∷ xs) there =
    let own = there 0 first refl in
    let rest = one_for_each (λ (index : ℕ). P (suc index)) xs (λ index x at. there (suc index) x at) in
    (own.0 ∷ rest.0, record { as_many = ap suc rest.1.as_many; each = by own rest.0 rest.1 })
  where
    by : (own : (y : Y) × P 0 first y) (ys : List Y) → AreOneForEach (λ (index : ℕ). P (suc index)) xs ys
        → (index : ℕ) (x : X) (y : Y) → slice_get (first ∷ xs) index ≡ Some x → slice_get (own.0 ∷ ys) index ≡ Some y → P index x y
    by own ys are zero x y at also = subst (λ (a : X). P 0 a y) (same_Some first x at) (subst (P 0 first) (same_Some own.0 y also) own.1)
    by own ys are (suc index) x y at also = are.each index x y at also
