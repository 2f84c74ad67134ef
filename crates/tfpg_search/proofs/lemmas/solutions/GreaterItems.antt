-- The greater items of two lists of times, and that they meet what both lists meet.
use Rattle.std.proofs.Common.{◌≡◌, ℕ, zero, suc, List, [], ◌∷◌, length, max, refl, ap, sym, subst, ◌∙◌, arith, pos}
use Rattle.std.specs.Prelude.{ℤ, ◌-ℤ◌, ◌≤ℤ◌, slice_index}
use Rattle.std.proofs.lemmas.Int.{ints}
use Rattle.tfpg_base.specs.declared.constraint.Constraint.{Constraint}
use Rattle.tfpg_base.specs.Constraint.{Meets, value_of}

-- the greater of the two items at each index
abbrev pub greater_items : List ℕ → List ℕ → List ℕ
greater_items [] others = []
greater_items (first ∷ rest) [] = first ∷ rest
greater_items (first ∷ rest) (other ∷ others) = max first other ∷ greater_items rest others

-- there are as many as in the first list
pub length-greater_items : (xs ys : List ℕ) → length (greater_items xs ys) ≡ length xs
length-greater_items [] ys = refl
length-greater_items (x ∷ xs) [] = refl
length-greater_items (x ∷ xs) (y ∷ ys) = ap suc (length-greater_items xs ys)

-- what stands at an index is the greater of the two items there
pub greater_items-at : (xs ys : List ℕ) (index : ℕ) → length xs ≡ length ys → slice_index (greater_items xs ys) index ≡ max (slice_index xs index) (slice_index ys index)
greater_items-at [] [] index same = omega arith
greater_items-at [] (y ∷ ys) index same = absurd (omega (arith, same))
greater_items-at (x ∷ xs) [] index same = absurd (omega (arith, same))
greater_items-at (x ∷ xs) (y ∷ ys) zero same = refl
greater_items-at (x ∷ xs) (y ∷ ys) (suc index) same = greater_items-at xs ys index (omega (arith, same))

-- the value of a number of a constraint, which is not negative
abbrev number_of : List ℕ → ℕ → ℕ
number_of times zero = 0
number_of times (suc node) = slice_index times node

value_is : (times : List ℕ) (number : ℕ) → value_of times number ≡ pos (number_of times number)
value_is times zero = refl
value_is times (suc node) = refl

number_of-greater : (xs ys : List ℕ) (number : ℕ) → length xs ≡ length ys → number_of (greater_items xs ys) number ≡ max (number_of xs number) (number_of ys number)
number_of-greater xs ys zero same = omega arith
number_of-greater xs ys (suc node) same = greater_items-at xs ys node same

-- a bound on two differences bounds that of the greater numbers
difference_met : (left right more_left more_right : ℕ) (bound : ℤ) → (pos left -ℤ pos right) ≤ℤ bound → (pos more_left -ℤ pos more_right) ≤ℤ bound
    → (pos (max left more_left) -ℤ pos (max right more_right)) ≤ℤ bound
difference_met left right more_left more_right bound one other = omega (arith, ints, one, other)

-- Lists of one length that meet a constraint: so do their greater items.
pub Meets-greater_items : (xs ys : List ℕ) (constraint : Constraint) → length xs ≡ length ys → Meets xs constraint → Meets ys constraint → Meets (greater_items xs ys) constraint
Meets-greater_items xs ys constraint same one other =
    let left : value_of (greater_items xs ys) constraint.left ≡ pos (max (number_of xs constraint.left) (number_of ys constraint.left)) =
    value_is (greater_items xs ys) constraint.left ∙ ap pos (number_of-greater xs ys constraint.left same) in
    let right : value_of (greater_items xs ys) constraint.right ≡ pos (max (number_of xs constraint.right) (number_of ys constraint.right)) =
    value_is (greater_items xs ys) constraint.right ∙ ap pos (number_of-greater xs ys constraint.right same) in
    subst (λ (v : ℤ). (v -ℤ value_of (greater_items xs ys) constraint.right) ≤ℤ constraint.most) (sym left)
    (subst (λ (v : ℤ). (pos (max (number_of xs constraint.left) (number_of ys constraint.left)) -ℤ v) ≤ℤ constraint.most) (sym right)
    (difference_met (number_of xs constraint.left) (number_of xs constraint.right) (number_of ys constraint.left) (number_of ys constraint.right) constraint.most
    (as_numbers xs one) (as_numbers ys other)))
  where
    as_numbers : (times : List ℕ) → Meets times constraint → (pos (number_of times constraint.left) -ℤ pos (number_of times constraint.right)) ≤ℤ constraint.most
    as_numbers times met =
        subst (λ (v : ℤ). (v -ℤ pos (number_of times constraint.right)) ≤ℤ constraint.most) (value_is times constraint.left)
        (subst (λ (v : ℤ). (value_of times constraint.left -ℤ v) ≤ℤ constraint.most) (value_is times constraint.right) met)
