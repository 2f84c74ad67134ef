-- What is declared stays valid so far, and indexed, when one thing more is declared.
use Rattle.std.proofs.Common.{◌≡◌, ◌≢◌, ℕ, ◌+◌, ◌<◌, ◌≤◌, ◌==◌, Bool, true, false, cond, not, All, List, [], ◌∷◌, ◌++◌, map, length, get_or, slice_get, Option, Some, None, position, IsTrue, refl, ap, sym, ◌∙◌, subst, arith, set, ◌&&◌, ⊎_elim}
use Rattle.std.specs.Str.{bytes_eq}
use Rattle.std.specs.Option.{option_map, option_map_or}
use Rattle.std.proofs.lemmas.Bool.{cases_lt, cases_eq, eq-eqb, ne_eqb, and_from, false≢true}
use Rattle.std.proofs.lemmas.List.{length_push, length-set, append-nil}
use Rattle.std.proofs.lemmas.List.Elements.{All-push, All-head, All-tail, All-nil, All-same, All-get_or, All-weaker}
use Rattle.std.proofs.lemmas.List.Quantifiers.{all_pairs_push}
use Rattle.tfpg_base.specs.Words.{is_name}
use Rattle.tfpg_graph.specs.declared.declared.Declared.TheInside.{Inside}
use Rattle.tfpg_graph.specs.declared.kind.Kind.{Kind}
use Rattle.tfpg_graph.specs.declared.edge.Edge.{Edge}
use Rattle.tfpg_graph.specs.declared.limits.TheConstants.{MAX_NODES, MAX_FAILURES, MAX_EDGES, MAX_INCOMING, MAX_MODES}
use Rattle.tfpg_graph.specs.Graph.{Tfpg, Node, is_failure, is_kind_at, failures, incoming, position_of_failure, node_named, mode_named, edge_from_to}
use Rattle.tfpg_base.specs.Choice.{numbers_from}
use Rattle.tfpg_graph.specs.Valid.{HasValidNumber, IsValidEdge, IsSamePair, IsValidSoFar}
use Rattle.tfpg_graph.specs.inside.declaring.Indexes.{graph_of, with_mode, with_node, with_edge, HasIndexes, IsDeclared}
use Rattle.tfpg_base.proofs.lemmas.lists.Numbered.{numbers_from-push, All-below-numbers_from}
use Rattle.tfpg_base.proofs.lemmas.lists.Positions.{All-none, position-All_fail, position-with_no, position-with_yes}
use Rattle.tfpg_base.proofs.lemmas.lists.SameBytes.{bytes_eq-false}
use Rattle.tfpg_base.proofs.lemmas.lists.Written.{slice_get-push_before, slice_get-push_at, slice_get-set_same, slice_get-set_other}

module _ (d : Inside) (graph : Tfpg) (seen : graph_of d ≡ graph) where
  -- what holds of what is declared, said of the graph as which it is seen
  pub IsDeclared-seen_as : IsDeclared d → HasIndexes graph (map (λ row. row.items) d.incoming.items) d.failures.items d.positions.items × IsValidSoFar graph
  IsDeclared-seen_as is =
      (subst (λ g. HasIndexes g (map (λ row. row.items) d.incoming.items) d.failures.items d.positions.items) seen is.indexed, subst IsValidSoFar seen is.so_far)

  -- and the other way round
  pub IsDeclared-seen : HasIndexes graph (map (λ row. row.items) d.incoming.items) d.failures.items d.positions.items → IsValidSoFar graph → IsDeclared d
  IsDeclared-seen indexed so_far = record {
    indexed = subst (λ g. HasIndexes g (map (λ row. row.items) d.incoming.items) d.failures.items d.positions.items) (sym seen) indexed;
    so_far = subst IsValidSoFar (sym seen) so_far;
  }

-- ---- a mode

pub HasIndexes-with_mode : (graph : Tfpg) (name : List ℕ) (rows : List (List ℕ)) (failed : List ℕ) (positions : List (Option ℕ)) → HasIndexes graph rows failed positions → HasIndexes (with_mode graph name) rows failed positions
HasIndexes-with_mode graph name rows failed positions is = record {
  row_count = is.row_count;
  row_is = is.row_is;
  failed_are = is.failed_are;
  position_count = is.position_count;
  position_is = is.position_is;
}

pub IsValidSoFar-with_mode : (graph : Tfpg) (name : List ℕ) → graph.edges ≡ [] → IsTrue (is_name name) → mode_named graph name ≡ None → length graph.modes < MAX_MODES → IsValidSoFar graph → IsValidSoFar (with_mode graph name)
IsValidSoFar-with_mode graph name none named new room is = record {
  node_names = is.node_names;
  nodes_differ = is.nodes_differ;
  node_numbers = is.node_numbers;
  mode_names = All-push (λ mode. IsTrue (is_name mode)) graph.modes name is.mode_names named;
  modes_differ = all_pairs_push (λ a b. a ≢ b) graph.modes name is.modes_differ
      (λ k d within. bytes_eq-false (get_or graph.modes k d) name (All-get_or (λ mode. bytes_eq mode name ≡ false) graph.modes k d within (All-none (λ mode. bytes_eq mode name) graph.modes new)));
  edges = All-same (IsValidEdge (with_mode graph name)) graph.edges [] none (All-nil (IsValidEdge (with_mode graph name)));
  edges_differ = is.edges_differ;
  few_nodes = is.few_nodes;
  few_failures = is.few_failures;
  few_edges = is.few_edges;
  few_modes = omega (arith, length_push graph.modes name);
  few_incoming = is.few_incoming;
}

-- ---- a node

-- the nodes that are failure modes, with the new one where it is one
abbrev pub with_failure : Bool → ℕ → List ℕ → List ℕ
with_failure failure node failed = failed ++ cond failure (node ∷ []) []

failures-with_node : (graph : Tfpg) (name : List ℕ) (kind : Kind) → failures (with_node graph name kind) ≡ with_failure (is_failure kind) (length graph.nodes) (failures graph)
failures-with_node graph name kind =
    numbers_from-push (λ node. is_failure node.kind) 0 graph.nodes (record { name = name; kind = kind })
    ∙ ap (λ n. with_failure (is_failure kind) n (failures graph)) (omega arith)

few_with_failure : (failure : Bool) (node : ℕ) (failed : List ℕ) → length failed ≤ MAX_FAILURES → (IsTrue failure → length failed < MAX_FAILURES) → length (with_failure failure node failed) ≤ MAX_FAILURES
few_with_failure true node failed few room = omega (arith, length_push failed node, room refl)
few_with_failure false node failed few room = subst (λ xs. length xs ≤ MAX_FAILURES) (sym (append-nil failed)) few

-- where no edge enters it, a node has no incoming edges
numbers_from-none : (node number : ℕ) (edges : List Edge) → All (λ edge. edge.target < node) edges → numbers_from number (λ edge. edge.target == node) edges ≡ []
numbers_from-none node number [] below = refl
numbers_from-none node number (edge ∷ edges) below =
    ap (λ b. cond b (number ∷ numbers_from (number + 1) (λ e. e.target == node) edges) (numbers_from (number + 1) (λ e. e.target == node) edges))
    (let less = All-head (λ e. e.target < node) edge edges below in ne_eqb edge.target node (λ same. omega (arith, same)))
    ∙ numbers_from-none node (number + 1) edges (All-tail (λ e. e.target < node) edge edges below)

-- no valid edge enters what is no node
pub no_edge_into : (graph : Tfpg) → All (IsValidEdge graph) graph.edges → (node : ℕ) → length graph.nodes ≤ node → incoming graph node ≡ []
no_edge_into graph edges node from = numbers_from-none node 0 graph.edges
    (All-weaker (IsValidEdge graph) (λ edge. edge.target < node) (λ edge valid. let within = valid.target in omega (arith, within, from)) graph.edges edges)

module _ (graph : Tfpg) (name : List ℕ) (kind : Kind) where
  abbrev new_node : Node
  new_node = record { name = name; kind = kind }

  -- what a test says of a node stays so with one node more
  pub is_kind_at-with_node : (test : Kind → Bool) (node : ℕ) → node < length graph.nodes → is_kind_at test (with_node graph name kind) node ≡ is_kind_at test graph node
  is_kind_at-with_node test node within =
      ap (λ (o : Option Node). option_map_or test (option_map (λ n. n.kind) o) false) (slice_get-push_before graph.nodes new_node node within)

  -- an edge is as valid with one node more
  IsValidEdge-with_node : (edge : Edge) → IsValidEdge graph edge → IsValidEdge (with_node graph name kind) edge
  IsValidEdge-with_node edge is = record {
    source = let within = is.source in omega (arith, length_push graph.nodes new_node);
    target = let within = is.target in omega (arith, length_push graph.nodes new_node);
    into_discrepancy = ap not (is_kind_at-with_node is_failure edge.target is.target) ∙ is.into_discrepancy;
    no_self_edge = is.no_self_edge;
    least = is.least;
    greatest = is.greatest;
    some_mode = is.some_mode;
    own_modes = is.own_modes;
  }

  pub HasIndexes-with_node : (rows : List (List ℕ)) (failed : List ℕ) (positions : List (Option ℕ)) → All (IsValidEdge graph) graph.edges → HasIndexes graph rows failed positions
      → HasIndexes (with_node graph name kind) (rows ++ [] ∷ []) (with_failure (is_failure kind) (length graph.nodes) failed) (positions ++ cond (is_failure kind) (Some (length failed)) None ∷ [])
  HasIndexes-with_node rows failed positions edges is = record {
    row_count = length_push rows [] ∙ ap (λ n. n + 1) is.row_count ∙ sym (length_push graph.nodes new_node);
    row_is = λ node within. ⊎_elim
        (λ lt. slice_get-push_before rows [] node (omega (arith, is.row_count)) ∙ is.row_is node lt)
        (λ ge. slice_get-push_at rows [] node (omega (arith, is.row_count, length_push graph.nodes new_node)) ∙ ap Some (sym (no_edge_into graph edges node (omega (arith, length_push graph.nodes new_node)))))
        (cases_lt node (length graph.nodes));
    failed_are = ap (with_failure (is_failure kind) (length graph.nodes)) is.failed_are ∙ sym (failures-with_node graph name kind);
    position_count = length_push positions _ ∙ ap (λ n. n + 1) is.position_count ∙ sym (length_push graph.nodes new_node);
    position_is = λ node within. ⊎_elim
        (λ lt. slice_get-push_before positions _ node (omega (arith, is.position_count)) ∙ is.position_is node lt
        ∙ ap Some (sym (ap (position (λ f. f == node)) (failures-with_node graph name kind) ∙ position-with_no (λ f. f == node) (is_failure kind) (failures graph) (length graph.nodes) (ne_eqb (length graph.nodes) node (λ e. omega (arith, e, lt))))))
        (λ ge. slice_get-push_at positions _ node (omega (arith, is.position_count, length_push graph.nodes new_node)) ∙ ap Some (last_position node (omega (arith, length_push graph.nodes new_node))))
        (cases_lt node (length graph.nodes));
  }
    where
      last_position : (node : ℕ) → node ≡ length graph.nodes → cond (is_failure kind) (Some (length failed)) None ≡ position_of_failure (with_node graph name kind) node
      last_position node last =
          (λ i. cond (is_failure kind) (Some (length (is.failed_are i))) None)
          ∙ sym (position-with_yes (λ f. f == length graph.nodes) (is_failure kind) (failures graph) (length graph.nodes)
          (position-All_fail (λ f. f == length graph.nodes) (failures graph)
          (All-weaker (λ f. f < length graph.nodes) (λ f. (f == length graph.nodes) ≡ false) (λ f lt. ne_eqb f (length graph.nodes) (λ e. omega (arith, e, lt)))
          (failures graph) (All-below-numbers_from (λ n. is_failure n.kind) graph.nodes)))
          (eq-eqb (length graph.nodes) (length graph.nodes) refl))
          ∙ (λ i. position (λ f. f == sym last i) (with_failure (is_failure kind) (length graph.nodes) (failures graph)))
          ∙ sym (ap (position (λ f. f == node)) (failures-with_node graph name kind))

  pub IsValidSoFar-with_node : IsTrue (is_name name) → node_named graph name ≡ None → HasValidNumber kind → length graph.nodes < MAX_NODES
      → (IsTrue (is_failure kind) → length (failures graph) < MAX_FAILURES) → IsValidSoFar graph → IsValidSoFar (with_node graph name kind)
  IsValidSoFar-with_node named new number room failure_room is =
      record {
        node_names = All-push (λ n. IsTrue (is_name n.name)) graph.nodes new_node is.node_names named;
        nodes_differ = all_pairs_push (λ a b. a.name ≢ b.name) graph.nodes new_node is.nodes_differ
            (λ k d within. bytes_eq-false (get_or graph.nodes k d).name name (All-get_or (λ n. bytes_eq n.name name ≡ false) graph.nodes k d within (All-none (λ n. bytes_eq n.name name) graph.nodes new)));
        node_numbers = All-push (λ n. HasValidNumber n.kind) graph.nodes new_node is.node_numbers number;
        mode_names = is.mode_names;
        modes_differ = is.modes_differ;
        edges = All-weaker (IsValidEdge graph) (IsValidEdge (with_node graph name kind)) IsValidEdge-with_node graph.edges is.edges;
        edges_differ = is.edges_differ;
        few_nodes = omega (arith, length_push graph.nodes new_node);
        few_failures = subst (λ xs. length xs ≤ MAX_FAILURES) (sym (failures-with_node graph name kind)) (few_with_failure (is_failure kind) (length graph.nodes) (failures graph) is.few_failures failure_room);
        few_edges = is.few_edges;
        few_modes = is.few_modes;
        few_incoming = is.few_incoming;
      }

module _ (d e : Inside) (graph : Tfpg) (name : List ℕ) (kind : Kind) (before : graph_of d ≡ graph) (after : graph_of e ≡ with_node graph name kind) where
  pub IsDeclared-with_node : IsDeclared d
      → map (λ row. row.items) e.incoming.items ≡ map (λ row. row.items) d.incoming.items ++ [] ∷ []
      → e.failures.items ≡ with_failure (is_failure kind) (length graph.nodes) d.failures.items
      → e.positions.items ≡ d.positions.items ++ cond (is_failure kind) (Some (length d.failures.items)) None ∷ []
      → IsTrue (is_name name) → node_named graph name ≡ None → HasValidNumber kind → length graph.nodes < MAX_NODES
      → (IsTrue (is_failure kind) → length (failures graph) < MAX_FAILURES) → IsDeclared e
  IsDeclared-with_node is rows failed positions named new number room failure_room =
      let was = IsDeclared-seen_as d graph before is in
      let more = HasIndexes-with_node graph name kind (map (λ row. row.items) d.incoming.items) d.failures.items d.positions.items was.1.edges was.0 in
      IsDeclared-seen e (with_node graph name kind) after (coe 1 0 (i. HasIndexes (with_node graph name kind) (rows i) (failed i) (positions i)) more)
      (IsValidSoFar-with_node graph name kind named new number room failure_room was.1)

-- ---- an edge

pub incoming-with_edge : (graph : Tfpg) (edge : Edge) (node : ℕ) → incoming (with_edge graph edge) node ≡ incoming graph node ++ cond (edge.target == node) (length graph.edges ∷ []) []
incoming-with_edge graph edge node =
    numbers_from-push (λ e. e.target == node) 0 graph.edges edge ∙ ap (λ n. incoming graph node ++ cond (edge.target == node) (n ∷ []) []) (omega arith)

module _ (graph : Tfpg) (edge : Edge) where
  -- into the target goes one more edge
  pub incoming-target : (node : ℕ) → node ≡ edge.target → incoming (with_edge graph edge) node ≡ incoming graph edge.target ++ length graph.edges ∷ []
  incoming-target node same =
      incoming-with_edge graph edge node ∙ (λ i. incoming graph (same i) ++ cond (eq-eqb edge.target node (sym same) i) (length graph.edges ∷ []) [])

  -- into another node no more
  incoming-other : (node : ℕ) → node ≢ edge.target → incoming (with_edge graph edge) node ≡ incoming graph node
  incoming-other node differs =
      incoming-with_edge graph edge node
      ∙ ap (λ b. incoming graph node ++ cond b (length graph.edges ∷ []) []) (ne_eqb edge.target node (λ same. differs (sym same)))
      ∙ append-nil (incoming graph node)

  pub HasIndexes-with_edge : (rows : List (List ℕ)) (failed : List ℕ) (positions : List (Option ℕ)) → edge.target < length graph.nodes → HasIndexes graph rows failed positions
      → HasIndexes (with_edge graph edge) (set rows edge.target (incoming graph edge.target ++ length graph.edges ∷ [])) failed positions
  HasIndexes-with_edge rows failed positions target is = record {
    row_count = length-set rows edge.target _ ∙ is.row_count;
    row_is = λ node within. ⊎_elim
        (λ same. ap (λ n. slice_get (set rows edge.target (incoming graph edge.target ++ length graph.edges ∷ [])) n) same ∙ slice_get-set_same rows edge.target _ (omega (arith, is.row_count)) ∙ ap Some (sym (incoming-target node same)))
        (λ differs. slice_get-set_other rows edge.target node _ differs ∙ is.row_is node within ∙ ap Some (sym (incoming-other node differs)))
        (cases_eq node edge.target);
    failed_are = is.failed_are;
    position_count = is.position_count;
    position_is = is.position_is;
  }

  -- an edge is as valid with one edge more
  IsValidEdge-with_edge : (e : Edge) → IsValidEdge graph e → IsValidEdge (with_edge graph edge) e
  IsValidEdge-with_edge e is = record {
    source = is.source;
    target = is.target;
    into_discrepancy = is.into_discrepancy;
    no_self_edge = is.no_self_edge;
    least = is.least;
    greatest = is.greatest;
    some_mode = is.some_mode;
    own_modes = is.own_modes;
  }

  differs_from_new : (e : Edge) → ((e.source == edge.source) && (e.target == edge.target)) ≡ false → IsSamePair e edge → ⊥
  differs_from_new e fails same = false≢true (sym fails ∙ and_from _ _ (eq-eqb e.source edge.source same.0) (eq-eqb e.target edge.target same.1))

  few_incoming_with_edge : length (incoming graph edge.target) < MAX_INCOMING → (node : ℕ) → length (incoming graph node) ≤ MAX_INCOMING → length (incoming (with_edge graph edge) node) ≤ MAX_INCOMING
  few_incoming_with_edge room node few = ⊎_elim
      (λ same. subst (λ xs. length xs ≤ MAX_INCOMING) (sym (incoming-target node same)) (omega (arith, length_push (incoming graph edge.target) (length graph.edges))))
      (λ differs. subst (λ xs. length xs ≤ MAX_INCOMING) (sym (incoming-other node differs)) few)
      (cases_eq node edge.target)

  pub IsValidSoFar-with_edge : IsValidEdge graph edge → edge_from_to graph edge.source edge.target ≡ None → length graph.edges < MAX_EDGES → length (incoming graph edge.target) < MAX_INCOMING
      → IsValidSoFar graph → IsValidSoFar (with_edge graph edge)
  IsValidSoFar-with_edge valid new room incoming_room is = record {
    node_names = is.node_names;
    nodes_differ = is.nodes_differ;
    node_numbers = is.node_numbers;
    mode_names = is.mode_names;
    modes_differ = is.modes_differ;
    edges = All-push (IsValidEdge (with_edge graph edge)) graph.edges edge
        (All-weaker (IsValidEdge graph) (IsValidEdge (with_edge graph edge)) IsValidEdge-with_edge graph.edges is.edges) (IsValidEdge-with_edge edge valid);
    edges_differ = all_pairs_push (λ a b. IsSamePair a b → ⊥) graph.edges edge is.edges_differ
        (λ k d within. differs_from_new (get_or graph.edges k d)
        (All-get_or (λ e. ((e.source == edge.source) && (e.target == edge.target)) ≡ false) graph.edges k d within (All-none (λ e. (e.source == edge.source) && (e.target == edge.target)) graph.edges new)));
    few_nodes = is.few_nodes;
    few_failures = is.few_failures;
    few_edges = omega (arith, length_push graph.edges edge);
    few_modes = is.few_modes;
    few_incoming = λ node. few_incoming_with_edge incoming_room node (is.few_incoming node);
  }

module _ (d e : Inside) (graph : Tfpg) (edge : Edge) (before : graph_of d ≡ graph) (after : graph_of e ≡ with_edge graph edge) where
  pub IsDeclared-with_edge : IsDeclared d
      → map (λ row. row.items) e.incoming.items ≡ set (map (λ row. row.items) d.incoming.items) edge.target (incoming graph edge.target ++ length graph.edges ∷ [])
      → e.failures.items ≡ d.failures.items → e.positions.items ≡ d.positions.items
      → IsValidEdge graph edge → edge_from_to graph edge.source edge.target ≡ None → length graph.edges < MAX_EDGES → length (incoming graph edge.target) < MAX_INCOMING → IsDeclared e
  IsDeclared-with_edge is rows failed positions valid new room incoming_room =
      let was = IsDeclared-seen_as d graph before is in
      let more = HasIndexes-with_edge graph edge (map (λ row. row.items) d.incoming.items) d.failures.items d.positions.items valid.target was.0 in
      IsDeclared-seen e (with_edge graph edge) after (coe 1 0 (i. HasIndexes (with_edge graph edge) (rows i) (failed i) (positions i)) more)
      (IsValidSoFar-with_edge graph edge valid new room incoming_room was.1)
