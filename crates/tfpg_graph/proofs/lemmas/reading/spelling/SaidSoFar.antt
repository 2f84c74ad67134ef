-- What is declared by statements of modes, then of nodes, then of edges.
use Rattle.std.proofs.Common.{◌≡◌, ℕ, ◌<◌, true, false, not, List, [], ◌∷◌, ◌++◌, length, map, get_or, All, Option, None, refl, ap, sym, ◌∙◌, arith, append_assoc}
use Rattle.std.specs.Option.{option_map}
use Rattle.std.specs.List.{list_any, filter_map}
use Rattle.std.proofs.lemmas.List.{append-nil, map_push}
use Rattle.std.proofs.lemmas.List.Elements.{All-nil, All-append, All-map, filter_map-append}
use Rattle.std.proofs.lemmas.List.Folds.{list_any_none}
use Rattle.tfpg_base.proofs.lemmas.lists.LookedUp.{filter_map-made}
use Rattle.tfpg_base.proofs.lemmas.lists.Valued.{filter_map-none}
use Rattle.tfpg_graph.specs.declared.edge.Edge.{Edge}
use Rattle.tfpg_graph.specs.Graph.{Tfpg, Node}
use Rattle.tfpg_graph.specs.Valid.{HasValidNumber}
use Rattle.tfpg_graph.specs.Statements.{Statement, DeclaresMode, DeclaresNode, declares_mode, declares_edge, ends_text}
use Rattle.tfpg_graph.specs.Declares.{mode_declared, node_declared, edge_declared, graph_said}
use Rattle.tfpg_graph.specs.Text.{words_of_kind}
use Rattle.tfpg_graph.proofs.lemmas.reading.spelling.SpelledValues.{kind_of_words-kind}

-- ---- statements of modes, then of nodes, then of edges

abbrev pub node_statement : Node → Statement
node_statement node = DeclaresNode node.name (words_of_kind node.kind)

-- the statements that declare these modes, and these nodes, and then these
abbrev pub said_so_far : List (List ℕ) → List Node → List Statement → List Statement
said_so_far modes nodes edges = map DeclaresMode modes ++ map node_statement nodes ++ edges

-- what is seen of the statement of an edge
pub record IsOfEdge (said : Statement) : Type 0 where
  pub no_mode : mode_declared said ≡ None
  pub no_node : node_declared said ≡ None
  pub no_end : ends_text said ≡ false

module _ (modes : List (List ℕ)) (nodes : List Node) (edges : List Statement) where
  All-so_far : (P : Statement → Type 0) → All (λ mode. P (DeclaresMode mode)) modes
      → All (λ node. P (node_statement node)) nodes → All P edges → All P (said_so_far modes nodes edges)
  All-so_far P of_modes of_nodes of_edges =
      All-append P (map DeclaresMode modes ++ map node_statement nodes) edges
      (All-append P (map DeclaresMode modes) (map node_statement nodes) (All-map P DeclaresMode modes of_modes)
      (All-map P node_statement nodes of_nodes)) of_edges

  filter_map-so_far : {X : Type 0} (f : Statement → Option X) (a b c : List X)
      → filter_map f (map DeclaresMode modes) ≡ a → filter_map f (map node_statement nodes) ≡ b → filter_map f edges ≡ c
      → filter_map f (said_so_far modes nodes edges) ≡ a ++ b ++ c
  filter_map-so_far f a b c of_modes of_nodes of_edges =
      filter_map-append f (map DeclaresMode modes ++ map node_statement nodes) edges
      ∙ ap (λ xs. xs ++ filter_map f edges) (filter_map-append f (map DeclaresMode modes) (map node_statement nodes))
      ∙ (λ i. of_modes i ++ of_nodes i ++ of_edges i)

  -- no statement ends the text
  pub not_ended-so_far : All IsOfEdge edges → list_any ends_text (said_so_far modes nodes edges) ≡ false
  not_ended-so_far are =
      list_any_none ends_text (said_so_far modes nodes edges)
      (All-so_far (λ said. ends_text said ≡ false) (λ k d within. refl) (λ k d within. refl)
      (λ k d within. (are k d within).no_end))

  module _ (are : All IsOfEdge edges) (numbers : All (λ node. HasValidNumber node.kind) nodes) where
    modes-so_far : filter_map mode_declared (said_so_far modes nodes edges) ≡ modes
    modes-so_far =
        filter_map-so_far mode_declared modes [] []
        (filter_map-made mode_declared DeclaresMode modes (λ k d within. refl))
        (filter_map-none mode_declared (map node_statement nodes)
        (All-map (λ said. mode_declared said ≡ None) node_statement nodes (λ k d within. refl)))
        (filter_map-none mode_declared edges (λ k d within. (are k d within).no_mode))
        ∙ append-nil (modes ++ []) ∙ append-nil modes

    nodes-so_far : filter_map node_declared (said_so_far modes nodes edges) ≡ nodes
    nodes-so_far =
        filter_map-so_far node_declared [] nodes []
        (filter_map-none node_declared (map DeclaresMode modes)
        (All-map (λ said. node_declared said ≡ None) DeclaresMode modes (λ k d within. refl)))
        (filter_map-made node_declared node_statement nodes
        (λ k d within. ap (option_map (λ kind. record { name = (get_or nodes k d).name; kind = kind }))
        (kind_of_words-kind (get_or nodes k d).kind (numbers k d within))))
        (filter_map-none node_declared edges (λ k d within. (are k d within).no_node))
        ∙ append-nil nodes

    edges-so_far : (graph : Tfpg) (declared : List Edge) → filter_map (edge_declared graph) edges ≡ declared
        → filter_map (edge_declared graph) (said_so_far modes nodes edges) ≡ declared
    edges-so_far graph declared is =
        filter_map-so_far (edge_declared graph) [] [] declared
        (filter_map-none (edge_declared graph) (map DeclaresMode modes)
        (All-map (λ said. edge_declared graph said ≡ None) DeclaresMode modes (λ k d within. refl)))
        (filter_map-none (edge_declared graph) (map node_statement nodes)
        (All-map (λ said. edge_declared graph said ≡ None) node_statement nodes (λ k d within. refl)))
        is

    -- The graph that they declare.
    pub graph_said-so_far : (declared : List Edge)
        → filter_map (edge_declared (record { nodes = nodes; edges = []; modes = modes })) edges ≡ declared
        → graph_said (said_so_far modes nodes edges) ≡ record { nodes = nodes; edges = declared; modes = modes }
    graph_said-so_far declared is =
        (λ i. record {
          nodes = nodes-so_far i;
          edges =
              filter_map (edge_declared (record { nodes = nodes-so_far i; edges = []; modes = modes-so_far i }))
              (said_so_far modes nodes edges);
          modes = modes-so_far i;
        })
        ∙ ap (λ es. record { nodes = nodes; edges = es; modes = modes })
        (edges-so_far (record { nodes = nodes; edges = []; modes = modes }) declared is)

-- only modes are declared before the nodes
pub modes_only-so_far : (modes : List (List ℕ))
    → list_any (λ said. not (declares_mode said)) (said_so_far modes [] []) ≡ false
modes_only-so_far modes =
    list_any_none (λ said. not (declares_mode said)) (said_so_far modes [] [])
    (All-so_far modes [] [] (λ said. not (declares_mode said) ≡ false) (λ k d within. refl)
    (All-nil (λ node. not (declares_mode (node_statement node)) ≡ false))
    (All-nil (λ said. not (declares_mode said) ≡ false)))

-- no edge is declared before the nodes are
pub no_edges-so_far : (modes : List (List ℕ)) (nodes : List Node)
    → list_any declares_edge (said_so_far modes nodes []) ≡ false
no_edges-so_far modes nodes =
    list_any_none declares_edge (said_so_far modes nodes [])
    (All-so_far modes nodes [] (λ said. declares_edge said ≡ false) (λ k d within. refl) (λ k d within. refl)
    (All-nil (λ said. declares_edge said ≡ false)))

-- a mode is declared where there is one
pub has_mode-so_far : (modes : List (List ℕ)) (nodes : List Node) (edges : List Statement) → 0 < length modes
    → list_any declares_mode (said_so_far modes nodes edges) ≡ true
has_mode-so_far [] nodes edges some = absurd (omega arith)
has_mode-so_far (mode ∷ modes) nodes edges some = refl

-- one mode more
pub said_so_far-mode : (modes : List (List ℕ)) (mode : List ℕ)
    → said_so_far modes [] [] ++ DeclaresMode mode ∷ [] ≡ said_so_far (modes ++ mode ∷ []) [] []
said_so_far-mode modes mode =
    (λ i. append-nil (append-nil (map DeclaresMode modes) i) i ++ DeclaresMode mode ∷ [])
    ∙ sym (map_push DeclaresMode modes mode)
    ∙ sym (append-nil (map DeclaresMode (modes ++ mode ∷ [])))
    ∙ sym (append-nil (map DeclaresMode (modes ++ mode ∷ []) ++ []))

-- one node more
pub said_so_far-node : (modes : List (List ℕ)) (nodes : List Node) (node : Node)
    → said_so_far modes nodes [] ++ node_statement node ∷ [] ≡ said_so_far modes (nodes ++ node ∷ []) []
said_so_far-node modes nodes node =
    ap (λ said. said ++ node_statement node ∷ []) (append-nil (map DeclaresMode modes ++ map node_statement nodes))
    ∙ append_assoc (map DeclaresMode modes) (map node_statement nodes) (node_statement node ∷ [])
    ∙ ap (λ said. map DeclaresMode modes ++ said) (sym (map_push node_statement nodes node))
    ∙ sym (append-nil (map DeclaresMode modes ++ map node_statement (nodes ++ node ∷ [])))

-- one edge more
pub said_so_far-edge : (modes : List (List ℕ)) (nodes : List Node) (edges : List Statement) (said : Statement)
    → said_so_far modes nodes edges ++ said ∷ [] ≡ said_so_far modes nodes (edges ++ said ∷ [])
said_so_far-edge modes nodes edges said = append_assoc (map DeclaresMode modes ++ map node_statement nodes) edges (said ∷ [])
