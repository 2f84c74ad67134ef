-- Walking back from an active node to those that made it active. Where ranks rise along the edges that may take no time,
-- the source of an edge that has carried the failure was active earlier, or at the same time with a lesser rank. So each
-- walk back ends.
use Rattle.std.proofs.Common.{◌≡◌, ℕ, ◌<◌, eqb, true, ◌⊎◌, ⊎_elim, inl, inr, List, Some, sym, subst, arith}
use Rattle.std.specs.Prelude.{Contains}
use Rattle.std.proofs.lemmas.Bool.{eqb-true, cases_lt}
use Rattle.std.proofs.lemmas.List.Elements.{All-contains, All-filter, filter_passes}
use Rattle.tfpg_base.proofs.lemmas.lists.Sequences.{by_number_and_rank}
use Rattle.tfpg_base.specs.declared.activation.Activation.{Activation}
use Rattle.tfpg_base.specs.Trace.{time_of}
use Rattle.tfpg_graph.specs.declared.edge.Edge.{Edge}
use Rattle.tfpg_graph.specs.Graph.{Tfpg, edges_into}
use Rattle.tfpg_graph.specs.ZeroCycle.{HasZeroOrder}
use Rattle.tfpg_log.specs.Log.{Logbook}
use Rattle.tfpg_log.specs.Rules.{HasAge}

-- An edge into a node that may take no time rises to it.
pub rises_into : (graph : Tfpg) (order : HasZeroOrder graph) (node : ℕ) (edge : Edge) → Contains (edges_into graph node) edge
    → edge.tmin ≡ 0
    → order.rank edge.source < order.rank node
rises_into graph order node edge into no_time =
    let ends : eqb edge.target node ≡ true =
    All-contains (λ (e : Edge). eqb e.target node ≡ true) (edges_into graph node) edge
    (filter_passes (λ e. eqb e.target node) graph.edges) into in
    let rises : edge.tmin ≡ 0 → order.rank edge.source < order.rank edge.target =
    All-contains (λ (e : Edge). e.tmin ≡ 0 → order.rank e.source < order.rank e.target) (edges_into graph node) edge
    (All-filter (λ e. eqb e.target node)
    (λ (e : Edge). e.tmin ≡ 0 → order.rank e.source < order.rank e.target) graph.edges order.rises) into in
    subst (λ n. order.rank edge.source < order.rank n) (eqb-true edge.target node ends) (rises no_time)

module _ (graph : Tfpg) (log : Logbook) (trace : List Activation) (order : HasZeroOrder graph) where
  -- where the failure came from over an edge, it was before
  came_before : (node time : ℕ) (edge : Edge) → Contains (edges_into graph node) edge → (age : HasAge log trace edge time edge.tmin)
      → (age.start < time) ⊎ ((age.start ≡ time) × (order.rank edge.source < order.rank node))
  came_before node time edge into age =
      ⊎_elim (λ earlier. inl earlier)
      (λ not_earlier. inr (omega (arith, age.since), rises_into graph order node edge into (omega (arith, age.since))))
      (cases_lt age.start time)

  -- What holds of an active node, wherever it holds of the sources that the failure came from, holds of each active node.
  pub traced_back : (P : ℕ → ℕ → Type 0)
      → ((node time : ℕ) → time_of trace node ≡ Some time
      → ((edge : Edge) → Contains (edges_into graph node) edge → (age : HasAge log trace edge time edge.tmin) → P edge.source age.start)
      → P node time)
      → (node time : ℕ) → time_of trace node ≡ Some time → P node time
  traced_back P step =
      by_number_and_rank order.rank (λ node time. time_of trace node ≡ Some time → P node time)
      (λ node time before lesser at. step node time at
      (λ edge into age. ⊎_elim (λ earlier. before edge.source age.start earlier age.source)
      (λ same. subst (λ t. time_of trace edge.source ≡ Some t → P edge.source t) (sym same.0) (lesser edge.source same.1) age.source)
      (came_before node time edge into age)))
