-- The result of a call that reads a part of a graph from JSON.
use Rattle.std.specs.Prelude.{◌≡◌, Option, Some, None, Result, Ok, Err}
use Rattle.tfpg_graph.specs.declared.cause.GraphCause.TheVariants.{BadLine}
use Rattle.tfpg_graph.specs.declared.cause.GraphFault.{GraphFault}
use Rattle.tfpg_graph.specs.declared.cause.GraphRefusal.{GraphRefusal}
use Rattle.tfpg_graph.specs.declared.cause.GraphRefusal.TheVariants.{Fault, NoMemory}
use Rattle.tfpg_json.specs.GraphText.{whole_fault}

-- What is found means what is wanted; or that is not there, and the fault is that the shape is missing; or memory ran out.
abbrev pub ReadAs : {V X : Type 0} → (V → X) → Option X → Result V GraphRefusal → Type 0
ReadAs meaning wanted (Ok found) = wanted ≡ Some (meaning found)
ReadAs meaning wanted (Err (Fault fault)) = (wanted ≡ None) × (fault ≡ whole_fault BadLine)
ReadAs meaning wanted (Err NoMemory) = Unit {0}

-- What is found means the text that is wanted; or the fault is the one that is wanted; or memory ran out.
abbrev pub TextAs : {V X : Type 0} → (V → X) → Result X GraphFault → Result V GraphRefusal → Type 0
TextAs meaning wanted (Ok found) = wanted ≡ Ok (meaning found)
TextAs meaning wanted (Err (Fault fault)) = wanted ≡ Err fault
TextAs meaning wanted (Err NoMemory) = Unit {0}
