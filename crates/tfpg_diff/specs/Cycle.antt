-- Negative cycles: constraints that no times can meet together.
use Rattle.std.specs.Prelude.{◌≡◌, List, map, All}
use Rattle.tfpg_base.specs.declared.constraint.Constraint.{Constraint}
use Rattle.tfpg_base.specs.ConstraintCycle.{HasDistinctLefts, IsNegativeCycle}
use Rattle.tfpg_diff.specs.declared.why.Why.{Why}
use Rattle.tfpg_diff.specs.declared.demand.Demand.{Demand}
use Rattle.tfpg_diff.specs.Demands.{Demands, Demanded}

-- the constraints of some demands
abbrev pub constraints_of : List Demand → List Constraint
constraints_of chain = map (λ demand. demand.constraint) chain

-- The tags are those of demands whose constraints are a negative cycle in which no left side stands twice.
pub record IsNegativeCycleOf (demands : Demands) (tags : List Why) (cycle : List Demand) : Type 0 where
  pub tags_are : map (λ demand. demand.why) cycle ≡ tags
  pub demanded : All (Demanded demands) cycle
  pub negative_cycle : IsNegativeCycle (constraints_of cycle)
  pub simple : HasDistinctLefts (constraints_of cycle)

-- The tags name a negative cycle in which no left side stands twice.
abbrev pub NamesNegativeCycle : Demands → List Why → Type 0
NamesNegativeCycle demands tags = (cycle : List Demand) × IsNegativeCycleOf demands tags cycle
