-- Why a graph is not read that is to be converted.
use Rattle.std.specs.Prelude.{ℕ, List, Bool, true, false}
use Rattle.tfpg_graph.specs.declared.cause.GraphRefusal.{GraphRefusal}
use Rattle.tfpg_graph.specs.Faults.{IsRefusalOf}
use Rattle.tfpg_json.specs.GraphText.{IsJsonRefusalOf}

-- Why a text is refused, where JSON is read or not: memory ran out, or this is its first fault.
abbrev pub IsRefusalFrom : Bool → List ℕ → GraphRefusal → Type 0
IsRefusalFrom true = IsJsonRefusalOf
IsRefusalFrom false = IsRefusalOf
