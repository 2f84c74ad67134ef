-- The constraints of a cycle one by one: where they begin and end, whether they are chained so far, and their sum.
use Rattle.std.specs.Prelude.{ℕ, ◌==◌, ℤ, pos, negsuc, ◌+ℤ◌, ◌≤ℤ◌, neg_ℤ, List, fold, Bool, true, false, ◌&&◌, if◌then◌else◌, Option, Some, None}
use Rattle.tfpg_base.specs.declared.constraint.Constraint.{Constraint}
use Rattle.tfpg_kernel.specs.declared.chain.Chain.{Chain}
use Rattle.tfpg_kernel.specs.declared.chain.ChainEnds.{ChainEnds}
use Rattle.tfpg_kernel.specs.declared.chain.ClosingFault.{ClosingFault}
use Rattle.tfpg_kernel.specs.declared.chain.ClosingFault.TheVariants as closing
use Rattle.tfpg_kernel.specs.declared.taken.BadStep.{BadStep}
use Rattle.tfpg_kernel.specs.declared.taken.BadStep.TheVariants.{Unchained, NotNegative}

-- the number is not above the limit, and its opposite is not
pub record HasMagnitudeUpTo (limit : ℕ) (number : ℤ) : Type 0 where
  pub low : neg_ℤ (pos limit) ≤ℤ number
  pub high : number ≤ℤ pos limit

-- the chain without a constraint
abbrev pub new_chain : Chain
new_chain = record { ends = None; unbroken = true; sum = pos 0 }

-- whether a constraint begins where the ones before it end
abbrev pub goes_on_from : Option ChainEnds → ℕ → Bool
goes_on_from None left = true
goes_on_from (Some ends) left = ends.last == left

-- where it ends with one more
abbrev pub ends_with : Option ChainEnds → Constraint → ChainEnds
ends_with None constraint = record { first = constraint.left; last = constraint.right }
ends_with (Some ends) constraint = record { first = ends.first; last = constraint.right }

-- the chain with one more constraint
abbrev pub with_constraint : Chain → Constraint → Chain
with_constraint chain constraint = record {
  ends = Some (ends_with chain.ends constraint);
  unbroken = chain.unbroken && goes_on_from chain.ends constraint.left;
  sum = chain.sum +ℤ constraint.most;
}

-- the chain of some constraints
abbrev pub chain_of : List Constraint → Chain
chain_of constraints = fold with_constraint new_chain constraints

-- whether the last constraint ends where the first begins
abbrev pub is_round : Option ChainEnds → Bool
is_round None = false
is_round (Some ends) = ends.first == ends.last

-- whether the sum is below 0
abbrev pub is_negative : ℤ → Bool
is_negative (pos n) = false
is_negative (negsuc n) = true

-- what the whole cycle is at fault for first
abbrev pub closing_fault : Chain → Option ClosingFault
closing_fault chain =
    if chain.unbroken && is_round chain.ends then (if is_negative chain.sum then None else Some closing.NotNegative) else Some closing.Unchained

-- the condition that a step breaks with such a cycle
abbrev pub bad_of : ClosingFault → BadStep
bad_of closing.Unchained = Unchained
bad_of closing.NotNegative = NotNegative
