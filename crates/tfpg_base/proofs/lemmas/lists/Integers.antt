-- Integers that are natural numbers, and those that are opposites of natural numbers.
use Rattle.std.proofs.Common.{◌≡◌, ℕ, zero, suc, Option, Some, None, refl, ap, pos}
use Rattle.std.specs.Prelude.{ℤ, negsuc, neg_ℤ}

-- the natural number whose opposite the integer is
pub opposite_of : ℤ → Option ℕ
opposite_of (pos zero) = Some 0
opposite_of (pos (suc number)) = None
opposite_of (negsuc number) = Some (suc number)

-- the natural number that the integer is
pub natural_of : ℤ → Option ℕ
natural_of (pos number) = Some number
natural_of (negsuc number) = None

-- a number is the one whose opposite its opposite is
pub opposite_of-opposite : (number : ℕ) → opposite_of (neg_ℤ (pos number)) ≡ Some number
unfolding opposite_of
opposite_of-opposite zero = refl
opposite_of-opposite (suc number) = refl

-- an integer that is the opposite of a number is its opposite
pub opposite-from_opposite_of : (integer : ℤ) (number : ℕ) → opposite_of integer ≡ Some number → integer ≡ neg_ℤ (pos number)
unfolding opposite_of
opposite-from_opposite_of (pos zero) number is = let same : 0 ≡ number = cc in ap (λ n. neg_ℤ (pos n)) same
opposite-from_opposite_of (pos (suc own)) number is = absurd cc
opposite-from_opposite_of (negsuc own) number is = let same : suc own ≡ number = cc in ap (λ n. neg_ℤ (pos n)) same

-- a number is the one that it is as an integer
pub natural_of-pos : (number : ℕ) → natural_of (pos number) ≡ Some number
unfolding natural_of
natural_of-pos number = refl

-- an integer that is a number is that number
pub pos-from_natural_of : (integer : ℤ) (number : ℕ) → natural_of integer ≡ Some number → integer ≡ pos number
unfolding natural_of
pos-from_natural_of (pos own) number is = let same : own ≡ number = cc in ap pos same
pos-from_natural_of (negsuc own) number is = absurd cc
