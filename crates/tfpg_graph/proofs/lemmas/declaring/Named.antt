-- The look-ups by name, and by the number of a name, in the maps that hold the names.
use Rattle.std.proofs.Common.{◌≡◌, ℕ, ◌<◌, List, Vec, Global, get_or, length, map, Option, None, Some, slice_get, position, IfSome, refl, ap, sym, ◌∙◌, arith}
use Rattle.std.proofs.lemmas.List.{length-map}
use Rattle.std.specs.Option.{option_map}
use Rattle.std.specs.Str.{bytes_eq}
use Rattle.std.proofs.lemmas.Option.{slice_get-map, slice_get_read, slice_get-get_or, same_Some}
use Rattle.std.proofs.lemmas.List.Quantifiers.{position-Some}
use Rattle.std.proofs.lemmas.Slice.Eq.{bytes_eq-Decides}
use Rattle.indexmap.specs.IndexMap.{values, index_of_by}
use Rattle.tfpg_graph.specs.declared.declared.Declared.TheInside.{Inside}
use Rattle.tfpg_graph.specs.declared.kind.Kind.{Kind}
use Rattle.tfpg_graph.specs.declared.kind.Kind.TheVariants.{Failure}
use Rattle.tfpg_graph.specs.Graph.{Tfpg, Node, incoming, kind_at, name_at, node_named, mode_named}
use Rattle.tfpg_graph.specs.inside.declaring.Indexes.{graph_of, HasIndexes}
use Rattle.tfpg_base.proofs.lemmas.lists.Choices.{option_map-twice}
use Rattle.tfpg_base.proofs.lemmas.lists.Positions.{position-agrees, position-map}
use Rattle.tfpg_base.proofs.lemmas.lists.SameBytes.{bytes_eq-swapped}

module _ (d : Inside) where
  -- a node is where its name stands among the keys
  pub index_of-node : (name : List ℕ) → index_of_by (λ key. bytes_eq name key.items) d.nodes ≡ node_named (graph_of d) name
  index_of-node name =
      position-map (λ key. bytes_eq name key.items) (λ entry. entry.0) d.nodes.entries
      ∙ position-agrees _ _ (λ entry. bytes_eq-swapped name entry.0.items) d.nodes.entries
      ∙ sym (position-map (λ node. bytes_eq node.name name) (λ entry. record { name = entry.0.items; kind = entry.1 }) d.nodes.entries)

  -- a mode is where its name stands among the keys
  pub index_of-mode : (name : List ℕ) → position (λ key. bytes_eq name key.items) d.modes.keys ≡ mode_named (graph_of d) name
  index_of-mode name =
      position-agrees _ _ (λ key. bytes_eq-swapped name key.items) d.modes.keys
      ∙ sym (position-map (λ mode. bytes_eq mode name) (λ key. key.items) d.modes.keys)

  -- what stands at a number among the values is what the node of that number is
  pub kind_at-values : (node : ℕ) (kind : Kind) → slice_get (values d.nodes) node ≡ Some kind → kind_at (graph_of d) node ≡ Some kind
  kind_at-values node kind at =
      ap (option_map (λ n. n.kind)) (slice_get-map (λ entry. record { name = entry.0.items; kind = entry.1 }) d.nodes.entries node)
      ∙ option_map-twice _ _ (slice_get d.nodes.entries node)
      ∙ sym (slice_get-map (λ entry. entry.1) d.nodes.entries node) ∙ at

-- the row of a node has the edges into it
pub row-incoming : (graph : Tfpg) (rows : List (Vec ℕ Global)) (failed : List ℕ) (positions : List (Option ℕ)) → HasIndexes graph (map (λ r. r.items) rows) failed positions
    → (node : ℕ) (row : Vec ℕ Global) → node < length graph.nodes → row ≡ get_or rows node row → row.items ≡ incoming graph node
row-incoming graph rows failed positions is node row within read =
    let among : node < length rows = omega (arith, is.row_count, length-map rows (λ r. r.items)) in
    same_Some row.items (incoming graph node)
    (ap (option_map (λ r. r.items)) (sym (slice_get_read rows (length rows) node row refl among read)) ∙ sym (slice_get-map (λ r. r.items) rows node) ∙ is.row_is node within)

module _ (graph : Tfpg) (name : List ℕ) where
  -- where a name is found, it is that of the node
  pub named_found : (node : ℕ) → node_named graph name ≡ Some node → (node < length graph.nodes) × (name_at graph node ≡ Some name)
  named_found node found =
      let other : Node = record { name = name; kind = Failure 0 } in
      let is = position-Some (λ n. bytes_eq n.name name) graph.nodes node other found in
      (is.0, ap (option_map (λ n. n.name)) (slice_get-get_or graph.nodes node other is.0) ∙ ap Some ((bytes_eq-Decides (get_or graph.nodes node other).name name).0 is.1))

  -- the same of a look-up's result
  pub IfSome-named : (r : Option ℕ) → r ≡ node_named graph name → IfSome r (λ node. (node < length graph.nodes) × (name_at graph node ≡ Some name))
  IfSome-named None is = tt
  IfSome-named (Some node) is = named_found node (sym is)

-- names of one node are one name
pub node_named-same : (graph : Tfpg) (one other : List ℕ) (a b : ℕ) → node_named graph one ≡ Some a → node_named graph other ≡ Some b → a ≡ b → one ≡ other
node_named-same graph one other a b first second same =
    same_Some one other (sym (named_found graph one a first).1 ∙ ap (name_at graph) same ∙ (named_found graph other b second).1)
