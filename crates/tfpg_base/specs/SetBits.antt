-- How 64 bits keep a set of positions.
use Rattle.std.specs.Prelude.{ℕ, zero, suc, ◌^◌, List, [], ◌∷◌, ◌++◌, ◌==◌, if◌then◌else◌, sum_by}
use Rattle.std.specs.Int.{bit_at}
use Rattle.tfpg_base.specs.declared.limits.TheConstants.{MAX_MEMBERS}

-- the indexes of the ones among the lowest bits, rising
unfoldable pub ones_below : ℕ → ℕ → List ℕ
ones_below zero bits = []
ones_below (suc count) bits = ones_below count bits ++ (if bit_at bits count == 1 then count ∷ [] else [])

-- the members of the set that 64 bits keep
unfoldable pub members_of : ℕ → List ℕ
members_of bits = ones_below MAX_MEMBERS bits

-- the number of which these are the indexes of the ones
abbrev pub bits_of : List ℕ → ℕ
bits_of members = sum_by (λ index. 2 ^ index) members
