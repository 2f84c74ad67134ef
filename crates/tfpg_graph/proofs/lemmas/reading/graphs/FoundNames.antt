-- In a valid graph a node is found by its name.
use Rattle.std.proofs.Common.{◌≡◌, ℕ, ◌<◌, List, [], length, IsTrue, Some, slice_get, unwrap_or, ap, subst}
use Rattle.std.proofs.lemmas.Option.{slice_get_within}
use Rattle.tfpg_base.proofs.lemmas.lists.Choices.{option_map-some}
use Rattle.tfpg_base.specs.Words.{is_name}
use Rattle.tfpg_graph.specs.Graph.{Tfpg, Node, name_at, name_word, node_named}
use Rattle.tfpg_graph.specs.Valid.{IsValid}
use Rattle.tfpg_graph.proofs.lemmas.reading.spelling.SpelledEdges.{is_name-name_word, node_named-name_word}

module _ (graph : Tfpg) (node : ℕ) (name : List ℕ) where
  -- what has a name is a node
  within : name_at graph node ≡ Some name → node < length graph.nodes
  within named =
      let there = option_map-some (λ (n : Node). n.name) (slice_get graph.nodes node) name named in
      slice_get_within graph.nodes node there.0 there.1

  same_name : name_at graph node ≡ Some name → name_word graph node ≡ name
  same_name named = ap (λ o. unwrap_or o []) named

  -- its name has the form of a name
  pub is_name-name_at : IsValid graph → name_at graph node ≡ Some name → IsTrue (is_name name)
  is_name-name_at valid named = subst (λ (word : List ℕ). IsTrue (is_name word)) (same_name named) (is_name-name_word graph node (within named) valid.so_far.node_names)

  -- and it is found by it
  pub node_named-name_at : IsValid graph → name_at graph node ≡ Some name → node_named graph name ≡ Some node
  node_named-name_at valid named = subst (λ (word : List ℕ). node_named graph word ≡ Some node) (same_name named) (node_named-name_word graph node (within named) valid.so_far.nodes_differ)
