-- What stands where in a graph with a probe.
use Rattle.std.proofs.Common.{◌≡◌, ℕ, ◌<◌, ◌==◌, Bool, false, cond, List, [], ◌∷◌, ◌++◌, length, All, Option, Some, IsTrue, unwrap_or, filter, refl, ap, ◌∙◌, arith}
use Rattle.std.specs.Prelude.{is_some}
use Rattle.std.specs.Option.{option_map, option_map_or, option_and_then}
use Rattle.std.proofs.lemmas.Bool.{eq-eqb, ne_eqb}
use Rattle.std.proofs.lemmas.List.{append-nil}
use Rattle.std.proofs.lemmas.List.Elements.{All-weaker, All-head, All-tail}
use Rattle.tfpg_base.proofs.lemmas.lists.Filtered.{filter-push_yes, filter-push_no}
use Rattle.tfpg_base.proofs.lemmas.lists.Numbered.{numbers_from-push}
use Rattle.tfpg_base.proofs.lemmas.lists.Written.{slice_get-push_before, slice_get-push_last}
use Rattle.tfpg_graph.specs.declared.kind.Kind.{Kind}
use Rattle.tfpg_graph.specs.declared.kind.Kind.TheVariants.{Or}
use Rattle.tfpg_graph.specs.declared.kind.Lag.{Lag}
use Rattle.tfpg_graph.specs.declared.edge.Edge.{Edge}
use Rattle.tfpg_graph.specs.Graph.{Tfpg, Node, kind_at, is_kind_at, is_failure, is_monitored, lag_of, lag_up_to, lag_or_zero, edges_into, failures}
use Rattle.tfpg_graph.specs.Probe.{probe_node, probe_edge, with_probe}
use Rattle.tfpg_graph.specs.Valid.{IsValidEdge}

-- where no edge enters a node, none is listed
none_into : (node : ℕ) (edges : List Edge) → All (λ edge. edge.target < node) edges → filter (λ edge. edge.target == node) edges ≡ []
none_into node [] below = refl
none_into node (edge ∷ edges) below =
    ap (λ b. cond b (edge ∷ filter (λ e. e.target == node) edges) (filter (λ e. e.target == node) edges))
    (let less = All-head (λ e. e.target < node) edge edges below in ne_eqb edge.target node (λ same. omega (arith, less, same)))
    ∙ none_into node edges (All-tail (λ e. e.target < node) edge edges below)

module _ (graph : Tfpg) (name : List ℕ) (source : ℕ) (lag : Lag) where
  abbrev pub probed : Tfpg
  probed = with_probe graph name source lag

  -- the number of the probe
  abbrev pub probe : ℕ
  probe = length graph.nodes

  -- another node is what it was
  kind_before : (node : ℕ) → node < probe → kind_at probed node ≡ kind_at graph node
  kind_before node within = ap (option_map (λ (n : Node). n.kind)) (slice_get-push_before graph.nodes (probe_node name lag) node within)

  pub test_before : (test : Kind → Bool) (node : ℕ) → node < probe → is_kind_at test probed node ≡ is_kind_at test graph node
  test_before test node within = ap (λ (o : Option Kind). option_map_or test o false) (kind_before node within)

  pub lag_before : (node : ℕ) → node < probe → lag_or_zero probed node ≡ lag_or_zero graph node
  lag_before node within = ap (λ (o : Option Kind). unwrap_or (option_and_then lag_of o) (lag_up_to 0)) (kind_before node within)

  pub monitored_before : (node : ℕ) → node < probe → is_monitored probed node ≡ is_monitored graph node
  monitored_before node within = ap (λ (o : Option Kind). is_some (option_and_then lag_of o)) (kind_before node within)

  -- the probe is a monitored OR node
  kind_probe : kind_at probed probe ≡ Some (Or (Some lag))
  kind_probe = ap (option_map (λ (n : Node). n.kind)) (slice_get-push_last graph.nodes (probe_node name lag))

  pub test_probe : (test : Kind → Bool) → is_kind_at test probed probe ≡ test (Or (Some lag))
  test_probe test = ap (λ (o : Option Kind). option_map_or test o false) kind_probe

  pub lag_probe : lag_or_zero probed probe ≡ lag
  lag_probe = ap (λ (o : Option Kind). unwrap_or (option_and_then lag_of o) (lag_up_to 0)) kind_probe

  pub monitored_probe : IsTrue (is_monitored probed probe)
  monitored_probe = ap (λ (o : Option Kind). is_some (option_and_then lag_of o)) kind_probe

  -- the edges into another node are what they were
  pub edges_before : (node : ℕ) → node < probe → edges_into probed node ≡ edges_into graph node
  edges_before node within =
      filter-push_no (λ (edge : Edge). edge.target == node) graph.edges (probe_edge graph source) (ne_eqb probe node (λ same. omega (arith, same, within)))

  -- into the probe leads its edge alone
  pub edges_probe : All (IsValidEdge graph) graph.edges → edges_into probed probe ≡ probe_edge graph source ∷ []
  edges_probe valid =
      filter-push_yes (λ (edge : Edge). edge.target == probe) graph.edges (probe_edge graph source) (eq-eqb probe probe refl)
      ∙ ap (λ (edges : List Edge). edges ++ probe_edge graph source ∷ [])
      (none_into probe graph.edges (All-weaker (IsValidEdge graph) (λ edge. edge.target < probe) (λ edge is. is.target) graph.edges valid))

  -- the failure modes are what they were
  pub failures_same : failures probed ≡ failures graph
  failures_same = numbers_from-push (λ (node : Node). is_failure node.kind) 0 graph.nodes (probe_node name lag) ∙ append-nil (failures graph)
