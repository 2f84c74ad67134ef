-- The statements of a valid graph, in order, have no cause.
use Rattle.std.proofs.Common.{◌≡◌, ◌≢◌, ℕ, ◌<◌, ◌≤◌, ◌==◌, ◌||◌, ◌&&◌, false, not, List, [], ◌∷◌, ◌++◌, length, map, All, AllPairs, IsTrue, Some, None, refl, ap, sym, ◌∙◌, subst, arith, append_assoc}
use Rattle.std.specs.List.{AllZip, list_any}
use Rattle.std.proofs.lemmas.Bool.{and_parts, eqb-true, eq-eqb, false_from_ne_true, not-true}
use Rattle.std.proofs.lemmas.List.{append-nil}
use Rattle.std.proofs.lemmas.List.Elements.{All-nil, All-cons, All-weaker}
use Rattle.tfpg_base.specs.Words.{is_name}
use Rattle.tfpg_graph.specs.declared.edge.Edge.{Edge}
use Rattle.tfpg_graph.specs.declared.limits.TheConstants.{MAX_NODES, MAX_FAILURES, MAX_EDGES, MAX_INCOMING, MAX_MODES}
use Rattle.tfpg_graph.specs.Graph.{Tfpg, Node, name_word, is_failure}
use Rattle.tfpg_base.specs.Choice.{numbers_from}
use Rattle.tfpg_graph.specs.Text.{SpellsModes}
use Rattle.tfpg_graph.specs.Valid.{IsValid, IsValidEdge, IsSamePair, HasValidNumber}
use Rattle.tfpg_graph.specs.Statements.{Statement, DeclaresMode, Ends, ends_text}
use Rattle.tfpg_graph.specs.Declares.{edge_declared, graph_said}
use Rattle.tfpg_base.specs.Choice.{first_of}
use Rattle.tfpg_graph.specs.Causes.{is_out_of_order, causes, cause_of_said}
use Rattle.tfpg_base.proofs.lemmas.lists.Elements.{All-front, All-middle, AllPairs-middle, length-middle}
use Rattle.tfpg_base.proofs.lemmas.lists.LookedUp.{filter_map-related}
use Rattle.tfpg_base.proofs.lemmas.lists.Numbered.{numbers_from-middle}
use Rattle.tfpg_base.proofs.lemmas.lists.Positions.{position-All_fail}
use Rattle.tfpg_base.proofs.lemmas.lists.SameBytes.{position-bytes_none}
use Rattle.tfpg_base.proofs.lemmas.lists.Zipped.{AllZip-push}
use Rattle.tfpg_graph.proofs.lemmas.reading.spelling.SpelledEdges.{edge_statement, is_name-name_word, node_named-name_word, IsModesWord-spelled, edge_declared-said}
use Rattle.tfpg_graph.proofs.lemmas.reading.causes.NoCause.{HasNoCause, no_first_cause, HasNoCause-mode, HasNoCause-node, HasNoCause-edge, HasNoCause-end, IsEdgeRight}
use Rattle.tfpg_graph.proofs.lemmas.reading.spelling.SaidSoFar.{node_statement, said_so_far, IsOfEdge, not_ended-so_far, graph_said-so_far, modes_only-so_far, no_edges-so_far, has_mode-so_far, said_so_far-mode, said_so_far-node, said_so_far-edge}

-- None of the later statements has a cause by those before it, and none of those ends the text.
abbrev pub Runs : List Statement → List Statement → Type 0
Runs before [] = Unit {0}
Runs before (said ∷ later) =
    (list_any ends_text before ≡ false) × (cause_of_said before (Some said) ≡ None) × Runs (before ++ said ∷ []) later

Runs-append : (before one other : List Statement) → Runs before one → Runs (before ++ one) other
    → Runs before (one ++ other)
Runs-append before [] other first second = subst (λ said. Runs said other) (append-nil before) second
Runs-append before (said ∷ one) other first second = (
  first.0,
  first.1,
  Runs-append (before ++ said ∷ []) one other first.2
      (subst (λ all. Runs all other) (sym (append_assoc before (said ∷ []) one)) second),
)

-- a statement has no cause by statements that declare this graph
cause-none : (before : List Statement) (graph : Tfpg) (said : Statement) → graph_said before ≡ graph
    → HasNoCause (is_out_of_order before said) graph said → cause_of_said before (Some said) ≡ None
cause-none before graph said declared has =
    ap (λ g. first_of (causes (is_out_of_order before said) g said)) declared
    ∙ no_first_cause (is_out_of_order before said) graph said has

-- ---- modes

record AreModes (modes : List (List ℕ)) : Type 0 where
  pub named : All (λ mode. IsTrue (is_name mode)) modes
  pub differ : AllPairs (λ a b. a ≢ b) modes
  pub few : length modes ≤ MAX_MODES

no_edge : All IsOfEdge []
no_edge = All-nil IsOfEdge

Runs-modes : (modes later : List (List ℕ)) → AreModes (modes ++ later)
    → Runs (said_so_far modes [] []) (map DeclaresMode later)
Runs-modes modes [] are = tt
Runs-modes modes (mode ∷ later) are = (
  not_ended-so_far modes [] [] no_edge,
  cause-none (said_so_far modes [] []) (record { nodes = []; edges = []; modes = modes }) (DeclaresMode mode)
      (graph_said-so_far modes [] [] no_edge (All-nil (λ node. HasValidNumber node.kind)) [] refl)
      (HasNoCause-mode (is_out_of_order (said_so_far modes [] []) (DeclaresMode mode))
      (record { nodes = []; edges = []; modes = modes }) mode (modes_only-so_far modes)
      (All-middle (λ m. IsTrue (is_name m)) modes mode later are.named)
      (position-bytes_none (λ m. m) mode modes (AllPairs-middle modes mode later (λ a b. a ≢ b) are.differ))
      (omega (arith, length-middle modes mode later, are.few))),
  subst (λ before. Runs before (map DeclaresMode later)) (sym (said_so_far-mode modes mode))
      (Runs-modes (modes ++ mode ∷ []) later (subst AreModes (sym (append_assoc modes (mode ∷ []) later)) are)),
)

-- ---- nodes

record AreNodes (nodes : List Node) : Type 0 where
  pub named : All (λ node. IsTrue (is_name node.name)) nodes
  pub differ : AllPairs (λ a b. a.name ≢ b.name) nodes
  pub numbers : All (λ node. HasValidNumber node.kind) nodes
  pub few : length nodes ≤ MAX_NODES
  pub few_failures : length (numbers_from 0 (λ node. is_failure node.kind) nodes) ≤ MAX_FAILURES

Runs-nodes : (modes : List (List ℕ)) (nodes later : List Node) → 0 < length modes → AreNodes (nodes ++ later)
    → Runs (said_so_far modes nodes []) (map node_statement later)
Runs-nodes modes nodes [] some are = tt
Runs-nodes modes nodes (node ∷ later) some are = (
  not_ended-so_far modes nodes [] no_edge,
  cause-none (said_so_far modes nodes []) (record { nodes = nodes; edges = []; modes = modes }) (node_statement node)
      (graph_said-so_far modes nodes [] no_edge
      (All-front (λ n. HasValidNumber n.kind) nodes (node ∷ later) are.numbers) [] refl)
      (HasNoCause-node (is_out_of_order (said_so_far modes nodes []) (node_statement node))
      (record { nodes = nodes; edges = []; modes = modes }) node.name node.kind
      (λ i. not (has_mode-so_far modes nodes [] some i) || no_edges-so_far modes nodes i)
      (All-middle (λ n. IsTrue (is_name n.name)) nodes node later are.named)
      (position-bytes_none (λ n. n.name) node.name nodes (AllPairs-middle nodes node later (λ a b. a.name ≢ b.name) are.differ))
      (All-middle (λ n. HasValidNumber n.kind) nodes node later are.numbers)
      (omega (arith, length-middle nodes node later, are.few))
      (λ failure. omega
      (arith, numbers_from-middle (λ n. is_failure n.kind) 0 nodes node later failure, are.few_failures))),
  subst (λ before. Runs before (map node_statement later)) (sym (said_so_far-node modes nodes node))
      (Runs-nodes modes (nodes ++ node ∷ []) later some
      (subst AreNodes (sym (append_assoc nodes (node ∷ []) later)) are)),
)

-- ---- edges

-- The statement declares this edge of the graph.
pub record IsEdgeSaid (graph : Tfpg) (edge : Edge) (said : Statement) : Type 0 where
  pub valid : IsValidEdge graph edge
  pub modes_word : List ℕ
  pub spells : SpellsModes graph edge.modes modes_word
  pub is : said ≡ edge_statement graph edge modes_word

record AreEdges (edges : List Edge) : Type 0 where
  pub differ : AllPairs (λ a b. IsSamePair a b → ⊥) edges
  pub few : length edges ≤ MAX_EDGES
  pub few_incoming : (node : ℕ) → length (numbers_from 0 (λ edge. edge.target == node) edges) ≤ MAX_INCOMING

module _ (graph : Tfpg) (valid : IsValid graph) where
  -- with the first edges alone
  abbrev with_edges : List Edge → Tfpg
  with_edges edges = record { nodes = graph.nodes; edges = edges; modes = graph.modes }

  -- such a statement is one of an edge
  IsOfEdge-said : (edge : Edge) (said : Statement) → IsEdgeSaid graph edge said → IsOfEdge said
  IsOfEdge-said edge said is = subst IsOfEdge (sym is.is) (record { no_mode = refl; no_node = refl; no_end = refl })

  pub are_of_edges : (edges : List Edge) (said : List Statement) → AllZip (IsEdgeSaid graph) edges said
      → All IsOfEdge said
  are_of_edges edges [] are = All-nil IsOfEdge
  are_of_edges [] (said ∷ others) are = absurd are
  are_of_edges (edge ∷ edges) (said ∷ others) are =
      All-cons IsOfEdge said others (IsOfEdge-said edge said are.0) (are_of_edges edges others are.1)

  pub edges_declared : (edges : List Edge) (said : List Statement) → AllZip (IsEdgeSaid graph) edges said
      → graph_said (said_so_far graph.modes graph.nodes said) ≡ with_edges edges
  edges_declared edges said are =
      graph_said-so_far graph.modes graph.nodes said (are_of_edges edges said are) valid.so_far.node_numbers edges
      (filter_map-related (edge_declared (with_edges [])) (IsEdgeSaid graph)
      (λ edge s is. ap
      (edge_declared (with_edges [])) is.is
      ∙ edge_declared-said graph valid edge is.valid is.modes_word is.spells) edges said are)

  module _ (edges : List Edge) (edge : Edge) (later : List Edge) (are : AreEdges (edges ++ edge ∷ later)) where
    not_same : (other : Edge) → (IsSamePair other edge → ⊥)
        → ((other.source == edge.source) && (other.target == edge.target)) ≡ false
    not_same other differ = false_from_ne_true _ (λ both.
        let parts = and_parts (other.source == edge.source) (other.target == edge.target) both in
        differ (eqb-true other.source edge.source parts.0, eqb-true other.target edge.target parts.1))

    edge_right : (said : Statement) (is : IsEdgeSaid graph edge said)
        → IsEdgeRight (with_edges edges) edge.source edge.target (name_word graph edge.source)
        (name_word graph edge.target) is.modes_word
    edge_right said is =
        let word = IsModesWord-spelled graph valid edge.modes is.modes_word is.spells in
        record {
          source_name = is_name-name_word graph edge.source is.valid.source valid.so_far.node_names;
          target_name = is_name-name_word graph edge.target is.valid.target valid.so_far.node_names;
          source_is = node_named-name_word graph edge.source is.valid.source valid.so_far.nodes_differ;
          target_is = node_named-name_word graph edge.target is.valid.target valid.so_far.nodes_differ;
          mode_names = word.names;
          modes_once = word.once;
          modes_known = word.known;
          some_mode = word.not_none;
          into_discrepancy = not-true _ is.valid.into_discrepancy;
          onward = is.valid.no_self_edge;
          first = position-All_fail (λ e. (e.source == edge.source) && (e.target == edge.target)) edges
              (All-weaker (λ e. IsSamePair e edge → ⊥)
              (λ e. ((e.source == edge.source) && (e.target == edge.target)) ≡ false) not_same edges
              (AllPairs-middle edges edge later (λ a b. IsSamePair a b → ⊥) are.differ));
          room = omega (arith, length-middle edges edge later, are.few);
          incoming_room =
              omega (
                arith,
                numbers_from-middle (λ e. e.target == edge.target) 0 edges edge later
                    (eq-eqb edge.target edge.target refl),
                are.few_incoming edge.target,
              );
        }

    -- the statement of the next edge has no cause
    edge_clean : (before : List Statement) (said : Statement) → IsEdgeSaid graph edge said
        → AllZip (IsEdgeSaid graph) edges before
        → cause_of_said (said_so_far graph.modes graph.nodes before) (Some said) ≡ None
    edge_clean before said is are_said =
        subst (λ s. cause_of_said (said_so_far graph.modes graph.nodes before) (Some s) ≡ None) (sym is.is)
        (cause-none (said_so_far graph.modes graph.nodes before) (with_edges edges)
        (edge_statement graph edge is.modes_word) (edges_declared edges before are_said)
        (HasNoCause-edge
        (is_out_of_order (said_so_far graph.modes graph.nodes before) (edge_statement graph edge is.modes_word))
        (with_edges edges) edge.source edge.target
        (name_word graph edge.source) (name_word graph edge.target) edge.tmin edge.tmax is.modes_word (edge_right said is)
        (ap not (has_mode-so_far graph.modes graph.nodes before valid.has_mode)) (record { least = is.valid.least; greatest = is.valid.greatest })))

  Runs-edges : (edges : List Edge) (said : List Statement) (later : List Edge) (others : List Statement)
      → AllZip (IsEdgeSaid graph) edges said → AllZip (IsEdgeSaid graph) later others
      → AreEdges (edges ++ later) → Runs (said_so_far graph.modes graph.nodes said) others
  Runs-edges edges said later [] are more all = tt
  Runs-edges edges said [] (s ∷ others) are more all = absurd more
  Runs-edges edges said (edge ∷ later) (s ∷ others) are more all = (
    not_ended-so_far graph.modes graph.nodes said (are_of_edges edges said are),
    edge_clean edges edge later all said s more.0 are,
    subst (λ before. Runs before others) (sym (said_so_far-edge graph.modes graph.nodes said s))
        (Runs-edges (edges ++ edge ∷ []) (said ++ s ∷ []) later others (AllZip-push (IsEdgeSaid graph) edges said edge s are more.0) more.1
        (subst AreEdges (sym (append_assoc edges (edge ∷ []) later)) all)),
  )

  module _ (said : List Statement) (are : AllZip (IsEdgeSaid graph) graph.edges said) where
    -- all that the graph's text says
    abbrev pub whole : List Statement
    whole = said_so_far graph.modes graph.nodes said ++ Ends ∷ []

    runs_modes : Runs [] (map DeclaresMode graph.modes)
    runs_modes =
        Runs-modes [] graph.modes
        (record { named = valid.so_far.mode_names; differ = valid.so_far.modes_differ; few = valid.so_far.few_modes })

    runs_nodes : Runs (map DeclaresMode graph.modes) (map node_statement graph.nodes)
    runs_nodes =
        subst (λ before. Runs before (map node_statement graph.nodes))
        (append-nil (map DeclaresMode graph.modes ++ []) ∙ append-nil (map DeclaresMode graph.modes))
        (Runs-nodes graph.modes [] graph.nodes valid.has_mode
        (record {
          named = valid.so_far.node_names;
          differ = valid.so_far.nodes_differ;
          numbers = valid.so_far.node_numbers;
          few = valid.so_far.few_nodes;
          few_failures = valid.so_far.few_failures;
        }))

    runs_edges : Runs (map DeclaresMode graph.modes ++ map node_statement graph.nodes) said
    runs_edges =
        subst (λ before. Runs before said) (append-nil (map DeclaresMode graph.modes ++ map node_statement graph.nodes))
        (Runs-edges [] [] graph.edges said tt are
        (record { differ = valid.so_far.edges_differ; few = valid.so_far.few_edges; few_incoming = valid.so_far.few_incoming }))

    runs_end : Runs (said_so_far graph.modes graph.nodes said) (Ends ∷ [])
    runs_end = (
      not_ended-so_far graph.modes graph.nodes said (are_of_edges graph.edges said are),
      cause-none (said_so_far graph.modes graph.nodes said) graph Ends (edges_declared graph.edges said are)
          (HasNoCause-end (is_out_of_order (said_so_far graph.modes graph.nodes said) Ends) graph
          (ap not (has_mode-so_far graph.modes graph.nodes said valid.has_mode))),
      tt,
    )

    -- None of it has a cause.
    pub Runs-whole : Runs [] whole
    Runs-whole =
        Runs-append [] (said_so_far graph.modes graph.nodes said) (Ends ∷ [])
        (Runs-append [] (map DeclaresMode graph.modes ++ map node_statement graph.nodes) said
        (Runs-append [] (map DeclaresMode graph.modes) (map node_statement graph.nodes) runs_modes runs_nodes) runs_edges)
        runs_end
