-- What is drawn: within its limits, and for a list step by step.
use Rattle.std.proofs.Common.{◌≡◌, ℕ, ◌+◌, ◌-◌, ◌<◌, ◌≤◌, List, [], ◌∷◌, ◌++◌, ◌%◌, IfSome, take, fold, Some, slice_get, option_map, ap, ◌∙◌, subst, arith}
use Rattle.std.specs.List.{scan}
use Rattle.std.proofs.lemmas.List.Sums.{fold_push}
use Rattle.tfpg_graph.specs.declared.edge.Edge.{Edge}
use Rattle.tfpg_graph.specs.declared.kind.Kind.{Kind}
use Rattle.tfpg_graph.specs.declared.kind.Kind.TheVariants.{Failure, Or, And}
use Rattle.tfpg_graph.specs.Graph.{Tfpg, Node, lag_of, kind_at}
use Rattle.tfpg_graph.specs.Valid.{IsValid, IsValidLag, HasValidNumber}
use Rattle.rand_pcg.specs.Lcg.{Lcg}
use Rattle.tfpg_sim.specs.Draws.{after_draw, drawn, delay_of, after_lag, lateness_drawn, latenesses_from}
use Rattle.tfpg_base.proofs.lemmas.lists.Choices.{option_map-some}
use Rattle.tfpg_base.proofs.lemmas.lists.Cuts.{take-next}
use Rattle.tfpg_base.proofs.lemmas.lists.Elements.{All-at}
use Rattle.tfpg_base.proofs.lemmas.lists.Scans.{scan-push}

-- what is drawn from the least value on is at most the greatest
pub drawn_upto : (least most value : ℕ) → least ≤ most → least + value % (most - least + 1) ≤ most
drawn_upto least most value order = upto_most (most - least + 1) (omega arith) (omega arith)
  where
    upto_most : (count : ℕ) → 0 < count → least + count ≡ most + 1 → least + value % count ≤ most
    upto_most count some same = let below : value % count < count = omega arith in omega arith

-- the lag of a kind with a valid number is valid
kind_lag : (kind : Kind) → HasValidNumber kind → IfSome (lag_of kind) IsValidLag
kind_lag (Failure rarity) valid = tt
kind_lag (Or lag) valid = valid
kind_lag (And lag) valid = valid

-- The lag of a monitored node of a valid graph is valid.
pub valid_lag : (graph : Tfpg) → IsValid graph → (node : ℕ) (kind : Kind) → kind_at graph node ≡ Some kind → IfSome (lag_of kind) IsValidLag
valid_lag graph valid node kind is =
    let found = option_map-some (λ (n : Node). n.kind) (slice_get graph.nodes node) kind is in
    kind_lag kind (subst HasValidNumber found.2 (All-at (λ (n : Node). HasValidNumber n.kind) graph.nodes node found.0 valid.so_far.node_numbers found.1))

-- the delays of these edges, from this generator on
abbrev pub delays_from : Lcg → List Edge → List ℕ
delays_from state edges = scan (λ before edge. after_draw before) (λ before edge. delay_of edge (drawn before)) state edges

-- the generator after a draw for each of these edges
abbrev pub after_edges : Lcg → List Edge → Lcg
after_edges state edges = fold (λ before edge. after_draw before) state edges

module _ (state : Lcg) (edges : List Edge) (number : ℕ) (edge : Edge) where
  pub delays_from-more : slice_get edges number ≡ Some edge
      → delays_from state (take (number + 1) edges) ≡ delays_from state (take number edges) ++ delay_of edge (drawn (after_edges state (take number edges))) ∷ []
  delays_from-more is =
      ap (delays_from state) (take-next edges number edge is)
      ∙ scan-push (λ before e. after_draw before) (λ before e. delay_of e (drawn before)) state (take number edges) edge

  pub after_edges-more : slice_get edges number ≡ Some edge
      → after_edges state (take (number + 1) edges) ≡ after_draw (after_edges state (take number edges))
  after_edges-more is =
      ap (after_edges state) (take-next edges number edge is)
      ∙ fold_push (λ before e. after_draw before) state (take number edges) edge

module _ (state : Lcg) (nodes : List Node) (n : ℕ) (kind : Kind) where
  -- the generator after the nodes before one
  abbrev at_node : Lcg
  at_node = fold (λ before node. after_lag before (lag_of node.kind)) state (take n nodes)

  pub latenesses_from-more : option_map (λ node. node.kind) (slice_get nodes n) ≡ Some kind
      → latenesses_from state (take (n + 1) nodes) ≡ latenesses_from state (take n nodes) ++ lateness_drawn at_node (lag_of kind) ∷ []
  latenesses_from-more is =
      let found = option_map-some (λ (node : Node). node.kind) (slice_get nodes n) kind is in
      ap (latenesses_from state) (take-next nodes n found.0 found.1)
      ∙ scan-push (λ before node. after_lag before (lag_of node.kind)) (λ before node. lateness_drawn before (lag_of node.kind)) state (take n nodes) found.0
      ∙ ap (λ k. latenesses_from state (take n nodes) ++ lateness_drawn at_node (lag_of k) ∷ []) found.2

  pub after_nodes-more : option_map (λ node. node.kind) (slice_get nodes n) ≡ Some kind
      → fold (λ before node. after_lag before (lag_of node.kind)) state (take (n + 1) nodes) ≡ after_lag at_node (lag_of kind)
  after_nodes-more is =
      let found = option_map-some (λ (node : Node). node.kind) (slice_get nodes n) kind is in
      ap (fold (λ before node. after_lag before (lag_of node.kind)) state) (take-next nodes n found.0 found.1)
      ∙ fold_push (λ before node. after_lag before (lag_of node.kind)) state (take n nodes) found.0
      ∙ ap (λ k. after_lag at_node (lag_of k)) found.2
