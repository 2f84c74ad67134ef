-- What a copy of what is declared keeps.
use Rattle.std.proofs.Common.{◌≡◌, ℕ, List, map, Option, Vec, Global, sym, subst, vec_len}
use Rattle.std.specs.List.{AllZip}
use Rattle.std.proofs.lemmas.List.Elements.{same_from_all_zip}
use Rattle.tfpg_graph.specs.declared.kind.Kind.{Kind}
use Rattle.tfpg_graph.specs.declared.declared.Declared.TheInside.{Inside}
use Rattle.tfpg_graph.specs.Graph.{Tfpg, Node}
use Rattle.tfpg_graph.specs.inside.declaring.Indexes.{graph_of, HasIndexes, IsDeclared}
use Rattle.tfpg_graph.specs.Valid.{IsValidSoFar}
use Rattle.tfpg_base.proofs.lemmas.lists.Zipped.{map-related}

-- the node that an entry keeps
abbrev pub node_of : Vec ℕ Global × Kind → Node
node_of entry = record { name = entry.0.items; kind = entry.1 }

module _ (C : ℕ → ℕ → Type 0) (same : (x y : ℕ) → C x y → y ≡ x) where
  -- rows whose items were copied have the same items
  pub copied_rows : (rows copies : List (Vec ℕ Global)) → AllZip (λ v w. AllZip C v.items w.items × (vec_len w ≡ vec_len v)) rows copies
      → map (λ row. row.items) copies ≡ map (λ row. row.items) rows
  copied_rows rows copies copied =
      map-related (λ (v w : Vec ℕ Global). AllZip C v.items w.items × (vec_len w ≡ vec_len v)) (λ (row : Vec ℕ Global). row.items) (λ (row : Vec ℕ Global). row.items)
      (λ row copy both. same_from_all_zip C row.items copy.items both.0 same) rows copies copied

  -- nodes whose names and kinds were copied are the same
  pub copied_nodes : (D : Kind → Kind → Type 0) → ((x y : Kind) → D x y → y ≡ x) → (nodes copies : List (Vec ℕ Global × Kind))
      → AllZip (λ p q. (AllZip C p.0.items q.0.items × (vec_len q.0 ≡ vec_len p.0)) × D p.1 q.1) nodes copies
      → map node_of copies ≡ map node_of nodes
  copied_nodes D same_kind nodes copies copied =
      map-related (λ (p q : Vec ℕ Global × Kind). (AllZip C p.0.items q.0.items × (vec_len q.0 ≡ vec_len p.0)) × D p.1 q.1) node_of node_of
      (λ node copy both. λ i. record {
        name = same_from_all_zip C node.0.items copy.0.items both.0.0 same i;
        kind = same_kind node.1 copy.1 both.1 i;
      }) nodes copies copied

-- the same nodes, edges and modes are the same graph
pub same_graph : (d copy : Inside) → map node_of copy.nodes.entries ≡ map node_of d.nodes.entries → copy.edges.items ≡ d.edges.items
    → map (λ name. name.items) copy.modes.keys ≡ map (λ name. name.items) d.modes.keys → graph_of copy ≡ graph_of d
same_graph d copy nodes edges modes = λ i. record { nodes = nodes i; edges = edges i; modes = modes i }

-- what is indexed stays so, where graph and indexes are the same
same_indexes : (graph now : Tfpg) (rows rows_now : List (List ℕ)) (failed failed_now : List ℕ) (positions positions_now : List (Option ℕ))
    → now ≡ graph → rows_now ≡ rows → failed_now ≡ failed → positions_now ≡ positions → HasIndexes graph rows failed positions → HasIndexes now rows_now failed_now positions_now
same_indexes graph now rows rows_now failed failed_now positions positions_now g r f p is =
    subst (λ (x : Tfpg). HasIndexes x rows_now failed_now positions_now) (sym g)
    (subst (λ (x : List (List ℕ)). HasIndexes graph x failed_now positions_now) (sym r)
    (subst (λ (x : List ℕ). HasIndexes graph rows x positions_now) (sym f)
    (subst (λ (x : List (Option ℕ)). HasIndexes graph rows failed x) (sym p) is)))

-- a copy with the same graph and the same indexes
pub IsDeclared-copy : (d copy : Inside) → graph_of copy ≡ graph_of d → map (λ row. row.items) copy.incoming.items ≡ map (λ row. row.items) d.incoming.items
    → copy.failures.items ≡ d.failures.items → copy.positions.items ≡ d.positions.items → IsDeclared d → IsDeclared copy
IsDeclared-copy d copy g r f p is = record {
  indexed = same_indexes (graph_of d) (graph_of copy) _ _ _ _ _ _ g r f p is.indexed;
  so_far = subst (λ (x : Tfpg). IsValidSoFar x) (sym g) is.so_far;
}
