-- What the names in an edge's line say, where each of them is declared and no mode is named twice.
use Rattle.std.specs.Prelude.{◌≡◌, ℕ, ◌<◌, List, [], length, All, Contains, true, false, Some, filter_map, is_none}
use Rattle.std.specs.List.{list_any}
use Rattle.tfpg_base.specs.SetBits.{bits_of}
use Rattle.tfpg_graph.specs.Graph.{Tfpg, node_named, mode_named}
use Rattle.tfpg_graph.specs.Declares.{modes_listed}
use Rattle.tfpg_graph.specs.Causes.{has_twice, has_unknown_name}
use Rattle.tfpg_graph.specs.inside.reading.LineCauses.{edge_of_names}

-- Each name is that of a mode, none stands twice, and none is that of one of these modes.
pub record NameNewModes (graph : Tfpg) (modes : List ℕ) (names : List (List ℕ)) : Type 0 where
  pub known : list_any (λ name. is_none (mode_named graph name)) names ≡ false
  pub once : has_twice names ≡ false
  pub new : All (λ mode. Contains modes mode → ⊥) (filter_map (mode_named graph) names)

-- The first two numbers are those of the nodes of these names, and the third has the bits of the modes that the word lists.
pub record AreNamed (graph : Tfpg) (source target word : List ℕ) (named : ℕ × ℕ × ℕ) : Type 0 where
  pub source_is : node_named graph source ≡ Some named.0
  pub source_in : named.0 < length graph.nodes
  pub target_is : node_named graph target ≡ Some named.1
  pub target_in : named.1 < length graph.nodes
  pub modes : NameNewModes graph [] (modes_listed word)
  pub bits : named.2 ≡ bits_of (filter_map (mode_named graph) (modes_listed word))

-- A name stands twice among those of the modes, or one of all its names is not declared.
abbrev pub HasWrongName : Tfpg → List ℕ → List ℕ → List ℕ → Type 0
HasWrongName graph source target word =
    has_twice (modes_listed word) ≡ false → has_unknown_name graph (edge_of_names source target word) ≡ true
