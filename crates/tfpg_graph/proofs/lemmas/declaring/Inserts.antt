-- A name that is new goes after the others.
use Rattle.std.proofs.Common.{◌≡◌, ℕ, Bool, cond, List, [], ◌∷◌, ◌++◌, map, None, position, refl, ap, ◌∙◌, Vec, Global}
use Rattle.std.proofs.lemmas.List.{map_push}
use Rattle.std.proofs.lemmas.List.Folds.{list_any_none}
use Rattle.std.specs.Map.{keys_of}
use Rattle.std.specs.Str.{bytes_eq}
use Rattle.indexmap.specs.IndexMap.{insert_entry}
use Rattle.indexmap.specs.IndexSet.{insert_key}
use Rattle.tfpg_graph.specs.declared.declared.Declared.TheInside.{Inside}
use Rattle.tfpg_graph.specs.declared.kind.Kind.{Kind}
use Rattle.tfpg_graph.specs.Graph.{Tfpg, node_named, mode_named}
use Rattle.tfpg_graph.specs.inside.declaring.Indexes.{graph_of, with_node, with_mode}
use Rattle.tfpg_base.proofs.lemmas.lists.Positions.{All-none, position-cons_none}
use Rattle.tfpg_graph.proofs.lemmas.declaring.Named.{index_of-node, index_of-mode}

-- a key that equals none goes last (a law of a list, which stands here as the base crate does not know indexmap)
pub insert_entry-last : {K V : Type 0} (eq : K → K → Bool) (entries : List (K × V)) (key : K) (value : V)
    → position (eq key) (keys_of entries) ≡ None → insert_entry eq entries key value ≡ entries ++ (key, value) ∷ []
insert_entry-last eq [] key value none = refl
insert_entry-last eq (entry ∷ entries) key value none =
    let first = position-cons_none (eq key) entry.0 (keys_of entries) none in
    ap (λ b. cond b ((entry.0, value) ∷ entries) (entry ∷ insert_entry eq entries key value)) first.0
    ∙ ap (λ es. entry ∷ es) (insert_entry-last eq entries key value first.1)

module _ (d : Inside) (graph : Tfpg) (seen : graph_of d ≡ graph) (key : Vec ℕ Global) (name : List ℕ) (named : key.items ≡ name) where
  -- a new node's name goes last, and so does the node
  pub nodes-insert : (kind : Kind) → node_named graph name ≡ None
      → map (λ entry. record { name = entry.0.items; kind = entry.1 }) (insert_entry (λ a b. bytes_eq a.items b.items) d.nodes.entries key kind) ≡ (with_node graph name kind).nodes
  nodes-insert kind new =
      ap (map (λ entry. record { name = entry.0.items; kind = entry.1 }))
      (insert_entry-last (λ a b. bytes_eq a.items b.items) d.nodes.entries key kind (index_of-node d key.items ∙ (λ i. node_named (seen i) (named i)) ∙ new))
      ∙ map_push (λ entry. record { name = entry.0.items; kind = entry.1 }) d.nodes.entries (key, kind)
      ∙ (λ i. (seen i).nodes ++ record { name = named i; kind = kind } ∷ [])

  -- a new mode goes last
  pub modes-insert : mode_named graph name ≡ None → map (λ mode. mode.items) (insert_key (λ a b. bytes_eq a.items b.items) d.modes.keys key) ≡ (with_mode graph name).modes
  modes-insert new =
      ap (λ b. map (λ mode. mode.items) (cond b d.modes.keys (d.modes.keys ++ key ∷ [])))
      (list_any_none (λ other. bytes_eq key.items other.items) d.modes.keys
      (All-none (λ other. bytes_eq key.items other.items) d.modes.keys (index_of-mode d key.items ∙ (λ i. mode_named (seen i) (named i)) ∙ new)))
      ∙ map_push (λ mode. mode.items) d.modes.keys key
      ∙ (λ i. (seen i).modes ++ named i ∷ [])
