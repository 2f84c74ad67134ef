-- The graph that statements declare, with one statement more in its order.
use Rattle.std.proofs.Common.{◌≡◌, ℕ, ◌<◌, true, false, not, List, [], ◌∷◌, ◌++◌, length, Some, None, refl, ap, sym, ◌∙◌, arith}
use Rattle.std.specs.List.{list_any, filter_map}
use Rattle.std.specs.Option.{option_map}
use Rattle.std.proofs.lemmas.Bool.{or_parts}
use Rattle.tfpg_base.proofs.lemmas.lists.LookedUp.{filter_map-unlike}
use Rattle.tfpg_base.proofs.lemmas.lists.Valued.{filter_map-push_some, filter_map-push_none}
use Rattle.tfpg_graph.specs.declared.kind.Kind.{Kind}
use Rattle.tfpg_graph.specs.declared.edge.Edge.{Edge}
use Rattle.tfpg_graph.specs.Graph.{Tfpg, Node}
use Rattle.tfpg_graph.specs.inside.declaring.Indexes.{with_mode, with_node, with_edge}
use Rattle.tfpg_graph.specs.Statements.{NodeWords, Statement, DeclaresMode, DeclaresNode, DeclaresEdge, Ends, declares_mode, declares_edge}
use Rattle.tfpg_graph.specs.Declares.{kind_of_words, mode_declared, node_declared, edge_declared, named_by, graph_said}
use Rattle.tfpg_graph.specs.Causes.{is_out_of_order}

-- ---- what statements declare

no_mode_no_node : (said : Statement) → not (declares_mode said) ≡ false → node_declared said ≡ None
no_mode_no_node (DeclaresMode name) fails = refl
no_mode_no_node (DeclaresNode name words) fails = absurd cc
no_mode_no_node (DeclaresEdge source target tmin tmax modes) fails = absurd cc
no_mode_no_node Ends fails = absurd cc

no_mode_no_edge : (graph : Tfpg) (said : Statement) → not (declares_mode said) ≡ false → edge_declared graph said ≡ None
no_mode_no_edge graph (DeclaresMode name) fails = refl
no_mode_no_edge graph (DeclaresNode name words) fails = absurd cc
no_mode_no_edge graph (DeclaresEdge source target tmin tmax modes) fails = absurd cc
no_mode_no_edge graph Ends fails = absurd cc

-- a statement that declares no edge has none
edge_declared-none : (graph : Tfpg) (said : Statement) → declares_edge said ≡ false → edge_declared graph said ≡ None
edge_declared-none graph (DeclaresMode name) fails = refl
edge_declared-none graph (DeclaresNode name words) fails = refl
edge_declared-none graph (DeclaresEdge source target tmin tmax modes) fails = absurd cc
edge_declared-none graph Ends fails = refl

-- where a statement declares a mode, there is one
pub some_mode_declared : (said : List Statement) → list_any declares_mode said ≡ true → 0 < length (filter_map mode_declared said)
some_mode_declared [] some = absurd cc
some_mode_declared (DeclaresMode name ∷ said) some = omega arith
some_mode_declared (DeclaresNode name words ∷ said) some = some_mode_declared said some
some_mode_declared (DeclaresEdge source target tmin tmax modes ∷ said) some = some_mode_declared said some
some_mode_declared (Ends ∷ said) some = some_mode_declared said some

module _ (before : List Statement) where
  -- before a mode there is no node and no edge
  pub nothing_before_mode : (name : List ℕ) → is_out_of_order before (DeclaresMode name) ≡ false
      → ((graph_said before).nodes ≡ []) × ((graph_said before).edges ≡ [])
  nothing_before_mode name in_order = (
    filter_map-unlike node_declared (λ said. not (declares_mode said)) no_mode_no_node before in_order,
    filter_map-unlike (edge_declared (named_by before)) (λ said. not (declares_mode said)) (no_mode_no_edge (named_by before)) before in_order,
  )

  -- before a node there is no edge
  pub no_edge_before_node : (name : List ℕ) (words : NodeWords)
      → is_out_of_order before (DeclaresNode name words) ≡ false → (graph_said before).edges ≡ []
  no_edge_before_node name words in_order =
      let unlike = or_parts _ (list_any declares_edge before) in_order in
      filter_map-unlike (edge_declared (named_by before)) declares_edge (edge_declared-none (named_by before)) before unlike.1

  -- One mode more.
  pub graph_said-mode : (name : List ℕ) → is_out_of_order before (DeclaresMode name) ≡ false
      → graph_said (before ++ DeclaresMode name ∷ []) ≡ with_mode (graph_said before) name
  graph_said-mode name in_order =
      let after : Tfpg = named_by (before ++ DeclaresMode name ∷ []) in
      let none : filter_map (edge_declared after) before ≡ [] =
      filter_map-unlike (edge_declared after) (λ said. not (declares_mode said)) (no_mode_no_edge after) before in_order in
      let edges : filter_map (edge_declared after) (before ++ DeclaresMode name ∷ []) ≡ (graph_said before).edges =
      filter_map-push_none (edge_declared after) before (DeclaresMode name) refl ∙ none ∙ sym (nothing_before_mode name in_order).1 in
      λ i. record {
        nodes = filter_map-push_none node_declared before (DeclaresMode name) refl i;
        edges = edges i;
        modes = filter_map-push_some mode_declared before (DeclaresMode name) name refl i;
      }

  -- One node more.
  pub graph_said-node : (name : List ℕ) (words : NodeWords) (kind : Kind)
      → is_out_of_order before (DeclaresNode name words) ≡ false → kind_of_words words ≡ Some kind
      → graph_said (before ++ DeclaresNode name words ∷ []) ≡ with_node (graph_said before) name kind
  graph_said-node name words kind in_order is =
      let node : Node = record { name = name; kind = kind } in
      let after : Tfpg = named_by (before ++ DeclaresNode name words ∷ []) in
      let unlike = or_parts _ (list_any declares_edge before) in_order in
      let none : filter_map (edge_declared after) before ≡ [] = filter_map-unlike (edge_declared after) declares_edge (edge_declared-none after) before unlike.1 in
      let edges : filter_map (edge_declared after) (before ++ DeclaresNode name words ∷ []) ≡ (graph_said before).edges =
      filter_map-push_none (edge_declared after) before (DeclaresNode name words) refl ∙ none ∙ sym (no_edge_before_node name words in_order) in
      λ i. record {
        nodes = filter_map-push_some node_declared before (DeclaresNode name words) node (ap (option_map (λ k. record { name = name; kind = k })) is) i;
        edges = edges i;
        modes = filter_map-push_none mode_declared before (DeclaresNode name words) refl i;
      }

  -- a statement that names nothing leaves the modes and nodes
  named_by-push : (said : Statement) → node_declared said ≡ None → mode_declared said ≡ None
      → named_by (before ++ said ∷ []) ≡ named_by before
  named_by-push said no_node no_mode = λ i. record {
    nodes = filter_map-push_none node_declared before said no_node i;
    edges = [];
    modes = filter_map-push_none mode_declared before said no_mode i;
  }

  -- One edge more.
  pub graph_said-edge : (source target tmin tmax modes : List ℕ) (edge : Edge)
      → edge_declared (graph_said before) (DeclaresEdge source target tmin tmax modes) ≡ Some edge
      → graph_said (before ++ DeclaresEdge source target tmin tmax modes ∷ []) ≡ with_edge (graph_said before) edge
  graph_said-edge source target tmin tmax modes edge is =
      let said : Statement = DeclaresEdge source target tmin tmax modes in
      let edges : filter_map (edge_declared (named_by (before ++ said ∷ []))) (before ++ said ∷ []) ≡ (graph_said before).edges ++ edge ∷ [] =
      ap (λ graph. filter_map (edge_declared graph) (before ++ said ∷ [])) (named_by-push said refl refl)
      ∙ filter_map-push_some (edge_declared (named_by before)) before said edge is in
      λ i. record {
        nodes = filter_map-push_none node_declared before said refl i;
        edges = edges i;
        modes = filter_map-push_none mode_declared before said refl i;
      }

  -- The end declares nothing.
  pub graph_said-end : graph_said (before ++ Ends ∷ []) ≡ graph_said before
  graph_said-end =
      let edges : filter_map (edge_declared (named_by (before ++ Ends ∷ []))) (before ++ Ends ∷ []) ≡ (graph_said before).edges =
      ap (λ graph. filter_map (edge_declared graph) (before ++ Ends ∷ [])) (named_by-push Ends refl refl)
      ∙ filter_map-push_none (edge_declared (named_by before)) before Ends refl in
      λ i. record {
        nodes = filter_map-push_none node_declared before Ends refl i;
        edges = edges i;
        modes = filter_map-push_none mode_declared before Ends refl i;
      }
