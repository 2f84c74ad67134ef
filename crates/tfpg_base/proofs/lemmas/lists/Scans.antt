-- What a state that goes along a list gives for its items.
use Rattle.std.proofs.Common.{◌≡◌, ℕ, zero, suc, List, [], ◌∷◌, ◌++◌, length, fold, Some, slice_get, refl, ap}
use Rattle.std.specs.List.{scan}
use Rattle.std.proofs.lemmas.Option.{none-some, same_Some}

module _ {S X Y : Type 0} (next : S → X → S) (out : S → X → Y) where
  -- what is given for one item more
  pub scan-push : (state : S) (xs : List X) (x : X) → scan next out state (xs ++ x ∷ []) ≡ scan next out state xs ++ out (fold next state xs) x ∷ []
  scan-push state [] x = refl
  scan-push state (y ∷ xs) x = ap (λ ys. out state y ∷ ys) (scan-push (next state y) xs x)

  -- what is given for an item is so from some state
  pub scan_at : (state : S) (xs : List X) (n : ℕ) (x : X) → slice_get xs n ≡ Some x → (s : S) × (slice_get (scan next out state xs) n ≡ Some (out s x))
  scan_at state [] n x at = absurd (none-some x at)
  scan_at state (y ∷ xs) zero x at = (state, ap (λ z. Some (out state z)) (same_Some y x at))
  scan_at state (y ∷ xs) (suc n) x at = scan_at (next state y) xs n x at

module _ {S X Y : Type 0} (next : S → X → S) (out : S → X → Y) where
  -- as much is given as there are items
  pub length-scan : (state : S) (xs : List X) → length (scan next out state xs) ≡ length xs
  length-scan state [] = refl
  length-scan state (x ∷ xs) = ap suc (length-scan (next state x) xs)
