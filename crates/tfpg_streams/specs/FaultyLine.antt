-- Which line of a text is at fault.
use Rattle.std.specs.Prelude.{◌≡◌, ℕ, ◌+◌, ◌<◌, List, length, take}

-- The line of this number, counted from 1, is at fault: a text may begin with the lines before it, and not with it too.
pub record IsFaultyLine (Begins : List (List ℕ) → Type 0) (lines : List (List ℕ)) (number : ℕ) : Type 0 where
  pub index : ℕ
  pub counted : number ≡ index + 1
  pub within : index < length lines
  pub before : Begins (take index lines)
  pub with_it : Begins (take (index + 1) lines) → ⊥
