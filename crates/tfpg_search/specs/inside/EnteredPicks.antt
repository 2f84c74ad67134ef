-- Which constraint of which alternative a pick is, by how many picks stand before each alternative that is entered.
use Rattle.std.specs.Prelude.{◌≡◌, ℕ, zero, suc, ◌+◌, ◌-◌, ◌≤◌, List, [], ◌∷◌, ◌++◌, length, Some, slice_get, nat_le, if◌then◌else◌}
use Rattle.std.specs.List.Sorted.{IsNonDecreasing}
use Rattle.tfpg_evidence.specs.declared.reason.Reason.{Reason}
use Rattle.tfpg_evidence.specs.declared.reason.Reason.TheVariants.{Zero, Pick}
use Rattle.tfpg_clause.specs.declared.limits.TheConstants.{MAX_CONSTRAINTS}

-- the reason of the pick at an index, where so many stand before the alternative of this split, and so many before each later one
abbrev pub entered_pick_from : ℕ → ℕ → List ℕ → ℕ → Reason
entered_pick_from split first [] index = Pick split (index + 1 - first)
entered_pick_from split first (next ∷ later) index =
    if nat_le next index then entered_pick_from (split + 1) next later index else Pick split (index + 1 - first)

-- the same, by how many stand before each alternative that is entered
abbrev pub entered_pick : List ℕ → ℕ → Reason
entered_pick [] index = Zero 0
entered_pick (first ∷ later) index = entered_pick_from 1 first later index

-- the reasons of so many picks
abbrev pub entered_picks : List ℕ → ℕ → List Reason
entered_picks entered zero = []
entered_picks entered (suc count) = entered_picks entered count ++ entered_pick entered count ∷ []

-- So many picks stand before each alternative, where there are so many in all: the first begins with the first pick, and none has
-- more than an alternative may have.
pub record AreBegun (entered : List ℕ) (count : ℕ) : Type 0 where
  pub rising : IsNonDecreasing entered
  pub none : entered ≡ [] → count ≡ 0
  pub begin : (first : ℕ) → slice_get entered 0 ≡ Some first → first ≡ 0
  pub within : (split first : ℕ) → slice_get entered split ≡ Some first → first ≤ count
  pub few : (split first next : ℕ) → slice_get entered split ≡ Some first → slice_get entered (split + 1) ≡ Some next
      → next ≤ first + MAX_CONSTRAINTS
  pub few_last : (split first : ℕ) → slice_get entered split ≡ Some first → split + 1 ≡ length entered
      → count ≤ first + MAX_CONSTRAINTS

-- After so many picks the next is this constraint of the alternative of this split, which was entered last.
pub record IsNext (entered : List ℕ) (count split number : ℕ) : Type 0 where
  pub before : List ℕ
  pub first : ℕ
  pub entered_is : entered ≡ before ++ first ∷ []
  pub split_is : split ≡ length entered
  pub number_is : count + 1 ≡ first + number
  pub few : number ≤ MAX_CONSTRAINTS
