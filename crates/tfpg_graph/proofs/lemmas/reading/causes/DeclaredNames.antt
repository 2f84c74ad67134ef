-- Names in an edge's line that are declared have no cause.
use Rattle.std.proofs.Common.{◌≡◌, ◌==◌, ◌<◌, ℕ, true, false, ◌&&◌, ◌||◌, not, List, [], ◌∷◌, length, Some, None, get_or, refl, ap, sym, ◌∙◌, arith}
use Rattle.std.specs.Bool.{then_some}
use Rattle.std.specs.List.{list_any, list_all}
use Rattle.std.specs.Option.{is_none}
use Rattle.std.specs.Str.{bytes_eq}
use Rattle.std.proofs.lemmas.Bool.Decides.{nat_tests}
use Rattle.std.proofs.lemmas.Bool.{or_parts}
use Rattle.std.proofs.lemmas.List.Quantifiers.{position-Some}
use Rattle.std.proofs.lemmas.Slice.Eq.{bytes_eq-Decides}
use Rattle.tfpg_base.specs.Choice.{first_of}
use Rattle.tfpg_base.specs.Words.{is_name}
use Rattle.tfpg_base.proofs.lemmas.lists.LookedUp.{found}
use Rattle.tfpg_graph.specs.declared.cause.GraphCause.TheVariants.{BadLine, BadName, DuplicateName, UnknownName}
use Rattle.tfpg_graph.specs.declared.kind.Kind.TheVariants.{Failure}
use Rattle.tfpg_graph.specs.Graph.{Tfpg, Node, node_named, mode_named}
use Rattle.tfpg_graph.specs.Valid.{IsValidSoFar}
use Rattle.tfpg_graph.specs.Declares.{modes_listed}
use Rattle.tfpg_graph.specs.inside.reading.LineCauses.{edge_name_causes}
use Rattle.tfpg_graph.specs.inside.reading.EdgeNames.{AreNamed}

-- a node without a name
abbrev nobody : Node
nobody = record { name = []; kind = Failure 0 }

module _ (graph : Tfpg) (valid : IsValidSoFar graph) where
  -- what a node is found by is a name
  node_name : (name : List ℕ) (node : ℕ) → node_named graph name ≡ Some node → is_name name ≡ true
  node_name name node is =
      let there = position-Some (λ other. bytes_eq other.name name) graph.nodes node nobody is in
      ap is_name (sym ((bytes_eq-Decides (get_or graph.nodes node nobody).name name).0 there.1)) ∙ valid.node_names node nobody there.0

  -- and so is what a mode is found by
  mode_name : (name : List ℕ) (mode : ℕ) → mode_named graph name ≡ Some mode → is_name name ≡ true
  mode_name name mode is =
      let there = position-Some (λ other. bytes_eq other name) graph.modes mode [] is in
      ap is_name (sym ((bytes_eq-Decides (get_or graph.modes mode []) name).0 there.1)) ∙ valid.mode_names mode [] there.0

  mode_names : (names : List (List ℕ)) → list_any (λ name. is_none (mode_named graph name)) names ≡ false → list_all is_name names ≡ true
  mode_names [] known = refl
  mode_names (name ∷ others) known =
      let parts = or_parts _ _ known in
      let there = found (mode_named graph) name parts.0 in
      ap (λ b. b && list_all is_name others) (mode_name name there.0 there.1) ∙ mode_names others parts.1

module _ (graph : Tfpg) (source target word : List ℕ) (some : 0 < length graph.modes) where
  has_modes : (length graph.modes == 0) ≡ false
  has_modes = grind (arith, nat_tests)

  -- names that are declared, where no mode is named twice, have no cause
  pub no_name_cause : IsValidSoFar graph → (named : ℕ × ℕ × ℕ) → AreNamed graph source target word named
      → first_of (edge_name_causes graph source target word) ≡ None
  no_name_cause valid named are = λ i. first_of (
      then_some (has_modes i) BadLine
      ∷ then_some (not (node_name graph valid source named.0 are.source_is i
      && (node_name graph valid target named.1 are.target_is i && mode_names graph valid (modes_listed word) are.modes.known i))) BadName
      ∷ then_some (are.modes.once i) DuplicateName
      ∷ then_some (is_none (are.source_is i) || (is_none (are.target_is i) || are.modes.known i)) UnknownName
      ∷ []
      )
