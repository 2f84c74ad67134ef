-- What the body of a system keeps: values and links that lead to zero.
use Rattle.std.specs.Prelude.{◌≡◌, ◌≢◌, Bool, true, false, sum, ℕ, ◌+◌, ◌^◌, ◌<◌, ◌≤◌, ℤ, pos, ◌+ℤ◌, ◌≤ℤ◌, ◌<ℤ◌, List, [], ◌∷◌, ◌++◌, map, length, slice_index, slice_get, All, Option, Some, None}
use Rattle.std.specs.List.{HoldsAt, AllWithin}
use Rattle.tfpg_diff.specs.declared.why.Why.{Why}
use Rattle.tfpg_diff.specs.VariableBounds.{VariableBounds}
use Rattle.tfpg_diff.specs.declared.pick.Pick.{Pick}
use Rattle.tfpg_diff.specs.declared.demand.Demand.{Demand}
use Rattle.tfpg_diff.specs.declared.link.Link.{Link}
use Rattle.tfpg_diff.specs.declared.link.Link.TheVariants.{Ceiling}
use Rattle.tfpg_diff.specs.Demands.{Demands, Demanded, Bounded, demand_of_pick}
pub use Rattle.tfpg_diff.specs.Demands.{demands_of}
use Rattle.tfpg_diff.specs.Solution.{IsBetween, IsSolution}
use Rattle.tfpg_diff.specs.inside.Linked.{demands_linked}
use Rattle.tfpg_base.specs.declared.limits.TheConstants.{NEVER}

-- the greatest value that the constraint allows its left side
abbrev pub allowed_by : List ℕ → Demand → ℤ
allowed_by values demand = pos (slice_index values demand.constraint.right) +ℤ demand.constraint.most

-- The left side less the right side is at most the bound, where these are the values of the numbers from 0 on.
abbrev pub IsMetBy : List ℕ → Demand → Type 0
IsMetBy values demand = pos (slice_index values demand.constraint.left) ≤ℤ allowed_by values demand

-- The values break the constraint.
abbrev pub IsBrokenBy : List ℕ → Demand → Type 0
IsBrokenBy values demand = allowed_by values demand <ℤ pos (slice_index values demand.constraint.left)

-- These are the links on the way from one number to another. The way does not go on from zero.
abbrev pub Climbs : List Demand → ℕ → List Demand → ℕ → Type 0
Climbs links from [] to = from ≡ to
Climbs links from (demand ∷ chain) to = (0 < from) × (slice_get links from ≡ Some demand) × Climbs links demand.constraint.right chain to

-- Each link has its number on its left.
abbrev pub IsLabelled : List Demand → Type 0
IsLabelled links = (number : ℕ) (demand : Demand) → 0 < number → slice_get links number ≡ Some demand → demand.constraint.left ≡ number

-- From each number the links lead to zero.
abbrev pub IsRooted : List Demand → Type 0
IsRooted links = (number : ℕ) → number < length links → (chain : List Demand) × Climbs links number chain 0

-- Some links lead from one number to where the walk stands, and none of them is the link of the number that it seeks.
pub record LeadsTo (links : List Demand) (from sought stands : ℕ) : Type 0 where
  pub chain : List Demand
  pub climbs : Climbs links from chain stands
  pub avoids : All (λ (demand : Demand). demand.constraint.left ≢ sought) chain

-- The same, and the tags of the links were appended.
pub record Walked (links : List Demand) (from sought stands : ℕ) (before after : List Why) : Type 0 where
  pub chain : List Demand
  pub climbs : Climbs links from chain stands
  pub avoids : All (λ (demand : Demand). demand.constraint.left ≢ sought) chain
  pub tags : after ≡ before ++ map (λ (demand : Demand). demand.why) chain

-- The link of a number is a demanded constraint with that number on its left, whose right side has a link, and the value
-- of the number is at least what the constraint allows.
pub record IsLink (demands : Demands) (values : List ℕ) (number : ℕ) (demand : Demand) : Type 0 where
  pub left : demand.constraint.left ≡ number
  pub right : demand.constraint.right ≤ length demands.bounds
  pub demanded : Demanded demands demand
  pub tight : allowed_by values demand ≤ℤ pos (slice_index values number)

-- What is demanded can be computed with.
pub record IsSound (demands : Demands) : Type 0 where
  pub few : length demands.bounds ≤ 2 ^ 31
  pub few_picks : length demands.picks < 2 ^ 32
  pub ceilings : (variable : ℕ) (bounds : VariableBounds) → Bounded demands variable bounds → bounds.ceiling ≤ NEVER
  pub lefts : All (λ (pick : Pick). pick.constraint.left ≤ length demands.bounds) demands.picks
  pub rights : All (λ (pick : Pick). pick.constraint.right ≤ length demands.bounds) demands.picks

-- Values between any two lowerings, with the demands that they come from.
pub record IsKept (demands : Demands) (values : List ℕ) (links : List Demand) : Type 0 where
  pub values_len : length values ≡ length demands.bounds + 1
  pub links_len : length links ≡ length demands.bounds + 1
  pub zero_stays : slice_index values 0 ≡ 0
  pub rooted : IsRooted links
  pub linked : (number : ℕ) (demand : Demand) → 0 < number → slice_get links number ≡ Some demand → IsLink demands values number demand
  pub within : (variable : ℕ) (bounds : VariableBounds) → Bounded demands variable bounds → IsBetween bounds (slice_index values (variable + 1))
  pub greatest : (times : List ℕ) → IsSolution demands times → (number : ℕ) → slice_index (0 ∷ times) number ≤ slice_index values number

-- Values and links between any two lowerings.
pub record AreKept (demands : Demands) (values : List ℕ) (links : List Link) : Type 0 where
  pub count : length links ≡ length demands.bounds + 1
  pub kept : IsKept demands values (demands_linked demands links)

-- Values meet each pick.
abbrev pub MeetsPicks : List ℕ → List Pick → Type 0
MeetsPicks values picks = All (λ pick. IsMetBy values (demand_of_pick pick)) picks

-- What testing one pick does to values: where it was broken they sum up to less, else they stay and meet it.
abbrev pub Relaxes : List Pick → ℕ → List ℕ → Bool → List ℕ → Type 0
Relaxes picks index before true after = sum after < sum before
Relaxes picks index before false after = (after ≡ before) × HoldsAt (λ pick. IsMetBy after (demand_of_pick pick)) picks index

-- Values meet each pick from an index up to another.
abbrev pub AreMetFrom : List ℕ → List Pick → ℕ → ℕ → Type 0
AreMetFrom values picks first end = AllWithin (λ pick. IsMetBy values (demand_of_pick pick)) picks first end

-- What testing so many picks does to values: where any was broken they sum up to less, and meet those after the last that was;
-- else they stay and meet all.
abbrev pub Passes : List Pick → ℕ → List ℕ → Option ℕ → List ℕ → Type 0
Passes picks count before (Some last) after = (sum after < sum before) × (last < count) × AreMetFrom after picks (last + 1) count
Passes picks count before None after = (after ≡ before) × AreMetFrom after picks 0 count

-- The variables below a number have their upper bounds as values and as links.
pub record AreAtCeilings (bounds : List VariableBounds) (values : List ℕ) (links : List Link) (count : ℕ) : Type 0 where
  pub values_len : length values ≡ length bounds + 1
  pub links_len : length links ≡ length bounds + 1
  pub zero_stays : slice_index values 0 ≡ 0
  pub values_are : (variable : ℕ) (limits : VariableBounds) → variable < count → slice_get bounds variable ≡ Some limits →
      slice_index values (variable + 1) ≡ limits.ceiling
  pub links_are : (variable : ℕ) (limits : VariableBounds) → variable < count → slice_get bounds variable ≡ Some limits →
      slice_get links (variable + 1) ≡ Some Ceiling
