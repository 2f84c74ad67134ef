-- Sets of failure modes, as the rising lists of their positions.
use Rattle.std.specs.Prelude.{◌≢◌, ◌<◌, ℕ, List, [], ◌∷◌, All, AllPairs, Contains, nat_lt, ◌==◌, if◌then◌else◌}
use Rattle.tfpg_base.specs.declared.limits.TheConstants.{MAX_MEMBERS}

-- the set with this member
abbrev pub with_member : ℕ → List ℕ → List ℕ
with_member position [] = position ∷ []
with_member position (first ∷ others) =
    if nat_lt position first then position ∷ first ∷ others else (if position == first then first ∷ others else first ∷ with_member position others)

-- each member of the one is a member of the other
abbrev pub IsSubset : List ℕ → List ℕ → Type 0
IsSubset subset whole = All (Contains whole) subset

-- a subset, and not the whole set
abbrev pub IsProperSubset : List ℕ → List ℕ → Type 0
IsProperSubset subset whole = IsSubset subset whole × (subset ≢ whole)

-- The numbers rise strictly.
abbrev pub Rises : List ℕ → Type 0
Rises numbers = AllPairs (λ earlier later. earlier < later) numbers

-- The members rise strictly, so each stands once, and each is below the maximum number of members.
pub record IsSet (members : List ℕ) : Type 0 where
  pub rising : Rises members
  pub small : All (λ position. position < MAX_MEMBERS) members
