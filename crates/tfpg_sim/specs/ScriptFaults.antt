-- Faults of a simulation.
use Rattle.std.specs.Prelude.{ℕ, List}
use Rattle.tfpg_base.specs.Lines.{lines_of}
use Rattle.tfpg_graph.specs.Graph.{Tfpg}
use Rattle.tfpg_sim.specs.declared.fault.SimFault.{SimFault}
use Rattle.tfpg_sim.specs.declared.fault.SimFault.TheVariants.{BadScript, NoMemory}
use Rattle.tfpg_sim.specs.Script.{IsScriptFault}

-- A fault that names a line of the script names its first faulty line. Memory may run out on any script.
abbrev pub IsSimFault : Tfpg → List ℕ → SimFault → Type 0
IsSimFault graph script (BadScript line) = IsScriptFault graph (lines_of script) line
IsSimFault graph script NoMemory = Unit {0}
