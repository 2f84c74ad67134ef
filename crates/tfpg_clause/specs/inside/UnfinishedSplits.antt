-- How many splits are left once the finished ones at the end are dropped.
use Rattle.std.specs.Prelude.{◌<◌, ℕ, zero, suc, List, IsSomeAnd, slice_get}
use Rattle.tfpg_clause.specs.declared.path.PathSplit.{PathSplit}

-- the split has an alternative left
abbrev pub IsUnfinished : PathSplit → Type 0
IsUnfinished split = split.alternative < split.alternatives

-- so many splits, where there are any, end with one that has an alternative left
abbrev pub HasNext : List PathSplit → ℕ → Type 0
HasNext path zero = Unit {0}
HasNext path (suc before) = IsSomeAnd (slice_get path before) IsUnfinished
