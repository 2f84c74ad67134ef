-- What statements declare that all have their values, and what one statement more declares.
use Rattle.std.proofs.Common.{◌≡◌, ℕ, false, not, ◌||◌, nat_lt, ◌==◌, List, [], ◌∷◌, ◌++◌, length, All, is_some, count_by, IsTrue, refl, ap, sym, ◌∙◌}
use Rattle.std.specs.List.{list_any}
use Rattle.std.proofs.Math.Bool.{or-false}
use Rattle.std.proofs.lemmas.Bool.{or_parts}
use Rattle.std.proofs.lemmas.List.Elements.{All-weaker, All-push}
use Rattle.tfpg_graph.specs.Graph.{Tfpg}
use Rattle.tfpg_graph.specs.Statements.{NodeWords, Statement, DeclaresMode, DeclaresNode, DeclaresEdge, Ends, declares_mode, declares_node, declares_edge, ends_text}
use Rattle.tfpg_graph.specs.Declares.{kind_of_words, mode_declared, node_declared, edge_declared, named_by, graph_said}
use Rattle.tfpg_graph.specs.Causes.{is_out_of_order}
use Rattle.tfpg_graph.specs.inside.reading.Turns.{HasValue, is_misplaced}
use Rattle.tfpg_graph.proofs.lemmas.reading.graphs.GraphsSaid.{graph_said-end}
use Rattle.tfpg_base.proofs.lemmas.lists.Valued.{filter_map-push_none, count_by-valued}
use Rattle.tfpg_base.proofs.lemmas.lists.Sequences.{zero-not_some}
use Rattle.tfpg_base.proofs.lemmas.lists.Elements.{list_any-count, list_any-or, All-list_any_none}
use Rattle.tfpg_base.proofs.lemmas.lists.Choices.{is_some-option_map}

-- a statement that declares a mode has its name
mode-valued : (said : Statement) → is_some (mode_declared said) ≡ declares_mode said
mode-valued (DeclaresMode name) = refl
mode-valued (DeclaresNode name words) = refl
mode-valued (DeclaresEdge source target tmin tmax modes) = refl
mode-valued Ends = refl

-- a statement that declares a node, with its value, has a node
node-valued : (graph : Tfpg) (said : Statement) → HasValue graph said → is_some (node_declared said) ≡ declares_node said
node-valued graph (DeclaresMode name) value = refl
node-valued graph (DeclaresNode name words) value = is_some-option_map (λ kind. record { name = name; kind = kind }) (kind_of_words words) ∙ value
node-valued graph (DeclaresEdge source target tmin tmax modes) value = refl
node-valued graph Ends value = refl

-- a statement that declares an edge, with its value, has an edge
edge-valued : (graph : Tfpg) (said : Statement) → HasValue graph said
    → is_some (edge_declared graph said) ≡ declares_edge said
edge-valued graph (DeclaresMode name) value = refl
edge-valued graph (DeclaresNode name words) value = refl
edge-valued graph (DeclaresEdge source target tmin tmax modes) value = value
edge-valued graph Ends value = refl

-- the value of a statement depends on nodes and modes alone
HasValue-same_names : (graph other : Tfpg) → graph.nodes ≡ other.nodes → graph.modes ≡ other.modes → (said : Statement)
    → HasValue graph said → HasValue other said
HasValue-same_names graph other nodes modes (DeclaresMode name) value = tt
HasValue-same_names graph other nodes modes (DeclaresNode name words) value = value
HasValue-same_names graph other nodes modes (DeclaresEdge source target tmin tmax bits) value =
    ap is_some (λ i. edge_declared (record { nodes = sym nodes i; edges = other.edges; modes = sym modes i }) (DeclaresEdge source target tmin tmax bits)) ∙ value
HasValue-same_names graph other nodes modes Ends value = tt

-- and that of one that declares no edge on nothing
HasValue-no_edge : (graph other : Tfpg) (said : Statement) → declares_edge said ≡ false → HasValue graph said
    → HasValue other said
HasValue-no_edge graph other (DeclaresMode name) no_edge value = tt
HasValue-no_edge graph other (DeclaresNode name words) no_edge value = value
HasValue-no_edge graph other (DeclaresEdge source target tmin tmax modes) no_edge value = absurd cc
HasValue-no_edge graph other Ends no_edge value = tt

-- what declares no mode declares a node or an edge, or ends the text
no_mode : (said : Statement) → not (declares_mode said) ≡ (declares_node said || (declares_edge said || ends_text said))
no_mode (DeclaresMode name) = refl
no_mode (DeclaresNode name words) = refl
no_mode (DeclaresEdge source target tmin tmax modes) = refl
no_mode Ends = refl

no_mode-any : (before : List Statement)
    → list_any (λ said. not (declares_mode said)) before ≡ (list_any declares_node before || (list_any declares_edge before || list_any ends_text before))
no_mode-any before =
    (λ i. list_any (λ said. no_mode said i) before)
    ∙ list_any-or declares_node (λ said. declares_edge said || ends_text said) before
    ∙ ap (λ b. list_any declares_node before || b) (list_any-or declares_edge ends_text before)

module _ (before : List Statement) (values : All (HasValue (graph_said before)) before) where
  -- there are as many modes as statements that declare one
  pub count-modes : count_by declares_mode before ≡ length (graph_said before).modes
  count-modes = count_by-valued mode_declared declares_mode before (λ k d within. mode-valued _)

  -- as many nodes
  pub count-nodes : count_by declares_node before ≡ length (graph_said before).nodes
  count-nodes = count_by-valued node_declared declares_node before
      (All-weaker (HasValue (graph_said before)) (λ said. is_some (node_declared said) ≡ declares_node said)
      (node-valued (graph_said before)) before values)

  -- and as many edges
  pub count-edges : count_by declares_edge before ≡ length (graph_said before).edges
  count-edges = count_by-valued (edge_declared (named_by before)) declares_edge before
      (All-weaker (HasValue (graph_said before)) (λ said. is_some (edge_declared (named_by before) said) ≡ declares_edge said)
      (λ said value. edge-valued (named_by before) said (HasValue-same_names (graph_said before) (named_by before) refl refl said value)) before values)

  any_mode : list_any declares_mode before ≡ nat_lt 0 (length (graph_said before).modes)
  any_mode = list_any-count declares_mode before ∙ ap (nat_lt 0) count-modes

  any_node : list_any declares_node before ≡ nat_lt 0 (length (graph_said before).nodes)
  any_node = list_any-count declares_node before ∙ ap (nat_lt 0) count-nodes

  any_edge : list_any declares_edge before ≡ nat_lt 0 (length (graph_said before).edges)
  any_edge = list_any-count declares_edge before ∙ ap (nat_lt 0) count-edges

  no_modes : (length (graph_said before).modes == 0) ≡ not (list_any declares_mode before)
  no_modes = zero-not_some (length (graph_said before).modes) ∙ ap not (sym any_mode)

  -- Before the end a statement is out of its order where what is declared shows it.
  pub is_misplaced-said : list_any ends_text before ≡ false → (said : Statement)
      → is_misplaced (graph_said before) said ≡ is_out_of_order before said
  is_misplaced-said unended (DeclaresMode name) =
      (λ i. sym any_node i || sym any_edge i)
      ∙ ap (λ b. list_any declares_node before || b) (sym (ap (λ b. list_any declares_edge before || b) unended ∙ or-false (list_any declares_edge before)))
      ∙ sym (no_mode-any before)
  is_misplaced-said unended (DeclaresNode name words) = λ i. no_modes i || sym any_edge i
  is_misplaced-said unended (DeclaresEdge source target tmin tmax modes) = no_modes
  is_misplaced-said unended Ends = no_modes

-- a mode in its order comes where no edge is declared
mode-no_edge : (before : List Statement) (name : List ℕ) → is_out_of_order before (DeclaresMode name) ≡ false
    → list_any declares_edge before ≡ false
mode-no_edge before name in_order =
    (or_parts (list_any declares_edge before) (list_any ends_text before)
    (or_parts (list_any declares_node before) _ (sym (no_mode-any before) ∙ in_order)).1).0

-- and so does a node
node-no_edge : (before : List Statement) (name : List ℕ) (words : NodeWords)
    → is_out_of_order before (DeclaresNode name words) ≡ false → list_any declares_edge before ≡ false
node-no_edge before name words in_order = (or_parts (not (list_any declares_mode before)) (list_any declares_edge before) in_order).1

module _ (before : List Statement) where
  -- where no edge is declared, each statement has its value by every graph
  values-no_edge : (graph other : Tfpg) → list_any declares_edge before ≡ false → All (HasValue graph) before
      → All (HasValue other) before
  values-no_edge graph other none values = λ k d within. HasValue-no_edge graph other _ (All-list_any_none declares_edge before none k d within) (values k d within)

-- Each statement has its value by what all of them declare.
abbrev pub AllHaveValues : List Statement → Type 0
AllHaveValues before = All (HasValue (graph_said before)) before

module _ (before : List Statement) (values : AllHaveValues before) where
  -- where statements before one more have their values by another graph, and it has its own, each has its value
  values-push : (said : Statement) → All (HasValue (graph_said (before ++ said ∷ []))) before
      → HasValue (graph_said (before ++ said ∷ [])) said → AllHaveValues (before ++ said ∷ [])
  values-push said all last = All-push (HasValue (graph_said (before ++ said ∷ []))) before said all last

  -- The values stay after one statement more that declares a mode.
  pub values-mode : (name : List ℕ) → is_out_of_order before (DeclaresMode name) ≡ false
      → AllHaveValues (before ++ DeclaresMode name ∷ [])
  values-mode name in_order =
      let said = DeclaresMode name in
      let no_edge = mode-no_edge before name in_order in
      values-push said (values-no_edge before (graph_said before) (graph_said (before ++ said ∷ [])) no_edge values) tt

  -- After one that declares a node.
  pub values-node : (name : List ℕ) (words : NodeWords) → is_out_of_order before (DeclaresNode name words) ≡ false
      → IsTrue (is_some (kind_of_words words)) → AllHaveValues (before ++ DeclaresNode name words ∷ [])
  values-node name words in_order value =
      let said = DeclaresNode name words in
      let no_edge = node-no_edge before name words in_order in
      values-push said (values-no_edge before (graph_said before) (graph_said (before ++ said ∷ [])) no_edge values) value

  -- one that declares neither a node nor a mode leaves all their values
  values-same_names : (said : Statement) → (graph_said before).nodes ≡ (graph_said (before ++ said ∷ [])).nodes
      → (graph_said before).modes ≡ (graph_said (before ++ said ∷ [])).modes
      → HasValue (graph_said before) said → AllHaveValues (before ++ said ∷ [])
  values-same_names said nodes modes value = values-push said
      (All-weaker (HasValue (graph_said before)) (HasValue (graph_said (before ++ said ∷ [])))
      (HasValue-same_names (graph_said before) (graph_said (before ++ said ∷ [])) nodes modes) before values)
      (HasValue-same_names (graph_said before) (graph_said (before ++ said ∷ [])) nodes modes said value)

  -- After one that declares an edge.
  pub values-edge : (source target tmin tmax modes : List ℕ)
      → IsTrue (is_some (edge_declared (graph_said before) (DeclaresEdge source target tmin tmax modes)))
      → AllHaveValues (before ++ DeclaresEdge source target tmin tmax modes ∷ [])
  values-edge source target tmin tmax modes value =
      let said = DeclaresEdge source target tmin tmax modes in
      values-same_names said (sym (filter_map-push_none node_declared before said refl)) (sym (filter_map-push_none mode_declared before said refl)) value

  -- After one that ends the text.
  pub values-end : AllHaveValues (before ++ Ends ∷ [])
  values-end = values-same_names Ends (ap (λ graph. graph.nodes) (sym (graph_said-end before))) (ap (λ graph. graph.modes) (sym (graph_said-end before))) tt
