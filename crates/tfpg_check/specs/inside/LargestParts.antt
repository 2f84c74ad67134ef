-- The largest proper parts of hypotheses, by their numbers.
use Rattle.std.specs.Prelude.{◌≡◌, ◌⊎◌, ◌↔◌, ℕ, ◌<◌, ◌≤◌, List, length, All, Contains, Bool, IsTrue, Some, slice_get}
use Rattle.tfpg_base.specs.Hypothesis.{Hypothesis, IsProperPart}
use Rattle.tfpg_check.specs.inside.Lookups.{flag_at}

-- The hypothesis of the one number is a proper part of that of the other.
pub record IsPartAmong (hypotheses : List Hypothesis) (part whole : ℕ) : Type 0 where
  pub less : Hypothesis
  pub less_at : slice_get hypotheses part ≡ Some less
  pub more : Hypothesis
  pub more_at : slice_get hypotheses whole ≡ Some more
  pub proper : IsProperPart less more

-- The hypothesis of the number is a proper part of one of these.
abbrev pub IsPartOfOne : List Hypothesis → ℕ → List ℕ → Type 0
IsPartOfOne hypotheses part wholes =
    (index : ℕ) × (whole : ℕ) × (slice_get wholes index ≡ Some whole) × IsPartAmong hypotheses part whole

-- These are proper parts of the whole with lesser numbers, and each proper part with a number from `first` on, and below that of
-- the whole, is one of them or a proper part of one of them.
pub record AreLargestFrom (hypotheses : List Hypothesis) (whole first : ℕ) (parts : List ℕ) : Type 0 where
  pub before : All (λ part. part < whole) parts
  pub proper : All (λ part. IsPartAmong hypotheses part whole) parts
  pub largest : (part : ℕ) → first ≤ part → part < whole → IsPartAmong hypotheses part whole
      → Contains parts part ⊎ IsPartOfOne hypotheses part parts

-- For each hypothesis below the count, the largest proper parts.
pub record AreLargestBelow (hypotheses : List Hypothesis) (count : ℕ) (rows : List (List ℕ)) : Type 0 where
  pub one_each : length rows ≡ count
  pub exact : (whole : ℕ) (parts : List ℕ) → slice_get rows whole ≡ Some parts → AreLargestFrom hypotheses whole 0 parts

-- the same for each hypothesis
abbrev pub ListsLargestParts : List Hypothesis → List (List ℕ) → Type 0
ListsLargestParts hypotheses rows = AreLargestBelow hypotheses (length hypotheses) rows

-- A proper part stands before its whole.
abbrev pub ArePartsBefore : List Hypothesis → Type 0
ArePartsBefore hypotheses = (part whole : ℕ) → IsPartAmong hypotheses part whole → part < whole

-- The flag of some proper part is up.
abbrev pub HasFlaggedPart : List Hypothesis → List Bool → ℕ → Type 0
HasFlaggedPart hypotheses flags whole = (part : ℕ) × IsPartAmong hypotheses part whole × IsTrue (flag_at flags part)

-- Of each hypothesis below the count the one flag is up exactly where another flag of some proper part is.
abbrev pub SayFlaggedParts : List Hypothesis → List Bool → ℕ → List Bool → Type 0
SayFlaggedParts hypotheses flags count said =
    (whole : ℕ) → whole < count → IsTrue (flag_at said whole) ↔ HasFlaggedPart hypotheses flags whole
