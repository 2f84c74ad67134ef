-- What the reader of a set's text finds for each of its words.
use Rattle.std.specs.Prelude.{ℕ, ◌<◌, ◌≤◌, List, [], ◌∷◌, length, All, Bool, false, IsTrue, ◌==◌, if◌then◌else◌, Option, None, option_and_then}
use Rattle.std.specs.Bool.{then_some}
use Rattle.tfpg_base.specs.Set.{Rises}
use Rattle.tfpg_graph.specs.Graph.{Tfpg, node_named, failures, is_monitored, position_of_failure}

-- the position of the failure mode of this name
abbrev pub position_named : Tfpg → List ℕ → Option ℕ
position_named graph name = option_and_then (position_of_failure graph) (node_named graph name)

-- the monitored node of this name
abbrev pub monitor_named : Tfpg → List ℕ → Option ℕ
monitor_named graph name = option_and_then (λ node. then_some (is_monitored graph node) node) (node_named graph name)

-- whether a word begins with an exclamation mark
abbrev pub is_marked : List ℕ → Bool
is_marked [] = false
is_marked (first ∷ others) = first == 33

-- the monitored node of the name after the exclamation mark
abbrev pub doubt_named : Tfpg → List ℕ → Option ℕ
doubt_named graph [] = None
doubt_named graph (mark ∷ name) = if mark == 33 then monitor_named graph name else None

-- the number is the position of a failure mode
abbrev pub IsPosition : Tfpg → ℕ → Type 0
IsPosition graph position = position < length (failures graph)

-- the number is that of a monitored node
abbrev pub IsMonitor : Tfpg → ℕ → Type 0
IsMonitor graph node = IsTrue (is_monitored graph node)

-- rising numbers of this kind, none before this one
pub record AreRisingFrom (IsOne : ℕ → Type 0) (least : ℕ) (numbers : List ℕ) : Type 0 where
  pub rising : Rises numbers
  pub not_before : All (λ number. least ≤ number) numbers
  pub members : All IsOne numbers
