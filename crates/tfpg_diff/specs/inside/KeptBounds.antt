-- What is kept of the name of a bound: one number. A bound that no call tightened is known by its value, and has the variable
-- in place of a tag.
use Rattle.std.specs.Prelude.{◌≡◌, ℕ, Bool, true, false, nat_eq, if◌then◌else◌}
use Rattle.std.proofs.Common.{refl, cond}
use Rattle.tfpg_base.specs.declared.limits.TheConstants.{NEVER}
use Rattle.tfpg_diff.specs.declared.why.Why.{Why}
use Rattle.tfpg_diff.specs.declared.why.Why.TheVariants.{Floor, Ceiling, Given}

-- what names a lower bound
abbrev pub floor_named : ℕ → ℕ → Why
floor_named floor number = if nat_eq floor 0 then Floor number else Given number

-- what names an upper bound
abbrev pub ceiling_named : ℕ → ℕ → Why
ceiling_named ceiling number = if nat_eq ceiling NEVER then Ceiling number else Given number

-- the number that is kept of a name
abbrev pub number_of : Why → ℕ
number_of (Floor variable) = variable
number_of (Ceiling variable) = variable
number_of (Given tag) = tag

-- It is the number that named a lower bound.
pub number_of-floor : (floor number : ℕ) → number_of (floor_named floor number) ≡ number
number_of-floor floor number = by (nat_eq floor 0)
  where
    by : (zero : Bool) → number_of (cond zero (Floor number) (Given number)) ≡ number
    by true = refl
    by false = refl

-- It is the number that named an upper bound.
pub number_of-ceiling : (ceiling number : ℕ) → number_of (ceiling_named ceiling number) ≡ number
number_of-ceiling ceiling number = by (nat_eq ceiling NEVER)
  where
    by : (never : Bool) → number_of (cond never (Ceiling number) (Given number)) ≡ number
    by true = refl
    by false = refl
