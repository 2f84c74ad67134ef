-- Choices among optional values, and among the items of a list.
use Rattle.std.specs.Prelude.{ℕ, zero, suc, ◌+◌, ◌-◌, Bool, List, [], ◌∷◌, length, Option, Some, None, option_map, slice_get, Result, Ok, Err, if◌then◌else◌, min}

-- the first value that there is
abbrev pub first_of : {X : Type 0} → List (Option X) → Option X
first_of [] = None
first_of (Some x ∷ others) = Some x
first_of (None ∷ others) = first_of others

-- the values, where there is each of them
abbrev pub each_of : {X : Type 0} → List (Option X) → Option (List X)
each_of [] = Some []
each_of (None ∷ others) = None
each_of (Some x ∷ others) = option_map (λ xs. x ∷ xs) (each_of others)

-- the lesser of two times, where both are there, and else the one that is
abbrev pub earlier : Option ℕ → Option ℕ → Option ℕ
earlier None other = other
earlier (Some one) None = Some one
earlier (Some one) (Some other) = Some (min one other)

-- the value, unless there is a refusal
abbrev pub unless_refused : {X E : Type 0} → Option E → X → Result X E
unless_refused (Some refusal) value = Err refusal
unless_refused None value = Ok value

-- the item of a number, where items are counted from 1
abbrev pub item_at : {X : Type 0} → List X → ℕ → Option X
item_at items zero = None
item_at items (suc before) = slice_get items before

-- the numbers of the items that pass, rising, where the first item has this number
abbrev pub numbers_from : {X : Type 0} → ℕ → (X → Bool) → List X → List ℕ
numbers_from number passes [] = []
numbers_from number passes (x ∷ xs) = if passes x then number ∷ numbers_from (number + 1) passes xs else numbers_from (number + 1) passes xs

-- the last of a list, where it has one
abbrev pub last_of : {X : Type 0} → List X → Option X
last_of xs = slice_get xs (length xs - 1)
