-- What the tags of a system name, as its user has it, and which names are those of a negative cycle.
use Rattle.std.specs.Prelude.{◌≡◌, List, map, Option, Some}
use Rattle.tfpg_base.specs.declared.constraint.Constraint.{Constraint}
use Rattle.tfpg_base.specs.ConstraintCycle.{HasDistinctLefts, IsNegativeCycle}
use Rattle.tfpg_base.specs.Choice.{each_of}
use Rattle.tfpg_diff.specs.declared.why.Why.{Why}
use Rattle.tfpg_diff.specs.declared.demand.Demand.{Demand}
use Rattle.tfpg_diff.specs.Demands.{Demands, Demanded}

-- The tag of each demand names its constraint.
abbrev pub AreDemandsNamed : Demands → (Why → Option Constraint) → Type 0
AreDemandsNamed demands named = (demand : Demand) → Demanded demands demand → named demand.why ≡ Some demand.constraint

-- The names are those of constraints that are a negative cycle in which no left side stands twice.
pub record AreNamesOfNegativeCycle {Name : Type 0} (named : Name → Option Constraint) (names : List Name)
    (constraints : List Constraint) : Type 0 where
  pub are_named : each_of (map named names) ≡ Some constraints
  pub negative_cycle : IsNegativeCycle constraints
  pub simple : HasDistinctLefts constraints
