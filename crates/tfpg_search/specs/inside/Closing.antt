-- What stands in the way of a demand.
use Rattle.std.specs.Prelude.{◌≡◌, List, Option}
use Rattle.tfpg_base.specs.declared.constraint.Constraint.{Constraint}
use Rattle.tfpg_diff.specs.Named.{AreNamesOfNegativeCycle}
use Rattle.tfpg_evidence.specs.declared.reason.Reason.{Reason}
use Rattle.tfpg_search.specs.declared.add_fault.AddFault.{AddFault}
use Rattle.tfpg_search.specs.declared.add_fault.AddFault.TheVariants.{Conflict, NoMemory}

-- The reasons state constraints that chain into a negative cycle in which no left side stands twice.
abbrev pub IsSimpleCycle : (Reason → Option Constraint) → List Reason → Type 0
IsSimpleCycle stated reasons = (constraints : List Constraint) × AreNamesOfNegativeCycle stated reasons constraints

-- The reasons of a conflict close a leaf where they state this.
abbrev pub Closes : (Reason → Option Constraint) → AddFault → Type 0
Closes stated (Conflict reasons) = IsSimpleCycle stated reasons
Closes stated NoMemory = Unit {0}

-- The reasons of a conflict are these.
abbrev pub IsFaultOf : List Reason → AddFault → Type 0
IsFaultOf reasons (Conflict found) = found ≡ reasons
IsFaultOf reasons NoMemory = Unit {0}
