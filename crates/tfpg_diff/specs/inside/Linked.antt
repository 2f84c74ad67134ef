-- What the links of a system stand for: a link names a bound or a pick, and the demand is looked up there.
use Rattle.std.specs.Prelude.{ℕ, zero, suc, ◌<◌, pos, List, [], ◌∷◌, length, slice_index_or}
use Rattle.tfpg_diff.specs.declared.why.Why.TheVariants.{Floor}
use Rattle.tfpg_diff.specs.VariableBounds.{VariableBounds}
use Rattle.tfpg_diff.specs.declared.pick.Pick.{Pick}
use Rattle.tfpg_diff.specs.declared.demand.Demand.{Demand}
use Rattle.tfpg_diff.specs.declared.link.Link.{Link}
use Rattle.tfpg_diff.specs.declared.link.Link.TheVariants.{Ceiling, Picked}
use Rattle.tfpg_diff.specs.Demands.{Demands, ceiling_of, demand_of_pick}

-- what is read past the end of the bounds
abbrev pub no_bounds : VariableBounds
no_bounds = record { floor = 0; floor_why = Floor 0; ceiling = 0; ceiling_why = Floor 0 }

-- what is read past the end of the picks
abbrev pub no_pick : Pick
no_pick = record { constraint = record { left = 0; right = 0; most = pos 0 }; tag = 0 }

-- The demand that the link of a number stands for: the upper bound of the variable, or the pick at the index. The link of zero
-- is not read.
abbrev pub demand_of_link : Demands → ℕ → Link → Demand
demand_of_link demands zero link = demand_of_pick no_pick
demand_of_link demands (suc variable) Ceiling = ceiling_of variable (slice_index_or demands.bounds variable no_bounds)
demand_of_link demands (suc variable) (Picked index) = demand_of_pick (slice_index_or demands.picks index no_pick)

-- the demands that the links of the numbers from this one on stand for
abbrev pub demands_linked_from : Demands → ℕ → List Link → List Demand
demands_linked_from demands number [] = []
demands_linked_from demands number (link ∷ links) = demand_of_link demands number link ∷ demands_linked_from demands (suc number) links

-- the demands that the links of all numbers stand for
abbrev pub demands_linked : Demands → List Link → List Demand
demands_linked demands links = demands_linked_from demands 0 links

-- The link names no pick that is not there.
abbrev pub IsLinkInto : List Pick → Link → Type 0
IsLinkInto picks Ceiling = Unit {0}
IsLinkInto picks (Picked index) = index < length picks
