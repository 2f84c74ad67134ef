-- Which edges lie on a cycle of edges that may take no time.
use Rattle.std.proofs.Common.{◌≡◌, ◌≢◌, ℕ, zero, suc, ◌+◌, ◌<◌, ◌≤◌, List, length, get_or, Option, Some, unwrap_or, slice_get, All, refl, sym, ap, ◌∙◌, arith}
use Rattle.std.proofs.lemmas.Option.{slice_get-get_or, slice_get_within}
use Rattle.std.proofs.lemmas.List.Elements.{All-contains}
use Rattle.tfpg_base.proofs.lemmas.lists.Elements.{Contains-at}
use Rattle.tfpg_graph.specs.declared.edge.Edge.{Edge}
use Rattle.tfpg_graph.specs.Graph.{Tfpg}
use Rattle.tfpg_graph.specs.Valid.{IsValidEdge, WalksInNoTime, HasNoZeroCycle}
use Rattle.tfpg_graph.specs.ZeroCycle.{LiesOnZeroCycle, HasZeroOrder}
use Rattle.tfpg_graph.specs.inside.zero_cycle.ZeroSearch.{mark_of, IsMarked}
use Rattle.tfpg_graph.specs.inside.zero_cycle.ZeroEdges.{AreZeroGroups, StaysInGroup, NoneStaysBefore}

-- ranks rise with each step of a walk
rank_rises : (graph : Tfpg) (is : HasZeroOrder graph) (steps from to : ℕ) → WalksInNoTime graph from to steps
    → is.rank from + steps ≤ is.rank to
rank_rises graph is zero from to walk = omega (arith, ap is.rank walk)
rank_rises graph is (suc steps) from to walk =
    let edge : Edge = walk.0 in
    let up : edge.tmin ≡ 0 → is.rank edge.source < is.rank edge.target =
    All-contains (λ e. e.tmin ≡ 0 → is.rank e.source < is.rank e.target) graph.edges edge is.rises walk.1 in
    omega (arith, up walk.3, ap is.rank walk.2, rank_rises graph is steps edge.target to walk.4)

-- where there are ranks, no cycle takes no time
pub HasZeroOrder-no_cycle : (graph : Tfpg) → HasZeroOrder graph → HasNoZeroCycle graph
HasZeroOrder-no_cycle graph is node steps walk = omega (arith, rank_rises graph is (suc steps) node node walk)

-- where no cycle takes no time, no edge lies on such a cycle
pub HasNoZeroCycle-none_lies : (graph : Tfpg) (number : ℕ) → HasNoZeroCycle graph → LiesOnZeroCycle graph number → ⊥
HasNoZeroCycle-none_lies graph number none lies =
    none lies.edge.source lies.steps
    (lies.edge, Contains-at graph.edges number lies.edge lies.numbered, refl, lies.no_time, lies.back)

module _ (graph : Tfpg) (marks : List (Option ℕ)) (valid : All (IsValidEdge graph) graph.edges)
    (groups : AreZeroGroups graph marks) where
  valid_at : (number : ℕ) (edge : Edge) → slice_get graph.edges number ≡ Some edge → IsValidEdge graph edge
  valid_at number edge at = All-contains (IsValidEdge graph) graph.edges edge valid
      (Contains-at graph.edges number edge at)

  pub source_within : (number : ℕ) (edge : Edge) → slice_get graph.edges number ≡ Some edge → edge.source < length marks
  source_within number edge at = let is = valid_at number edge at in omega (arith, is.source, groups.count)

  -- marks do not fall along a walk
  marks_rise : (steps from to mark : ℕ) → WalksInNoTime graph from to steps → mark_of marks from ≡ Some mark
      → (above : ℕ) × (mark_of marks to ≡ Some above) × (mark ≤ above)
  marks_rise zero from to mark walk at = (mark, ap (mark_of marks) (sym walk) ∙ at, omega arith)
  marks_rise (suc steps) from to mark walk at =
      let edge : Edge = walk.0 in
      let next = groups.rises edge mark walk.1 walk.3 (ap (mark_of marks) walk.2 ∙ at) in
      let last = marks_rise steps edge.target to next.0 walk.4 next.1 in
      (last.0, last.1, omega (arith, next.2, last.2))

  -- the ends of an edge on a cycle have one mark
  stays_on_cycle : (number : ℕ) (lies : LiesOnZeroCycle graph number) → StaysInGroup marks lies.edge
  stays_on_cycle number lies =
      let edge = lies.edge in
      let is = valid_at number edge lies.numbered in
      let source : IsMarked marks edge.source = groups.all edge.source is.source in
      let target = groups.rises edge source.0
      (Contains-at graph.edges number edge lies.numbered) lies.no_time source.1 in
      let again = marks_rise lies.steps edge.target edge.source target.0 lies.back target.1 in
      let one : Some again.0 ≡ Some source.0 = sym again.1 ∙ source.1 in
      let equal : again.0 ≡ source.0 = cc in
      let same : source.0 ≡ target.0 = omega (arith, target.2, again.2, equal) in
      (lies.no_time, source.1 ∙ ap Some same ∙ sym target.1)

  -- an edge whose ends have one mark lies on a cycle
  pub LiesOnZeroCycle-stays : (number : ℕ) (edge : Edge) → slice_get graph.edges number ≡ Some edge
      → StaysInGroup marks edge → LiesOnZeroCycle graph number
  LiesOnZeroCycle-stays number edge at stays =
      let is = valid_at number edge at in
      let target : IsMarked marks edge.target = groups.all edge.target is.target in
      let back = groups.joined edge.target edge.source target.0 target.1 (stays.1 ∙ target.1) in
      record { edge = edge; numbered = at; no_time = stays.0; steps = back.0; back = back.1 }

  -- no edge before lies on one
  pub none_lies_before : (end earlier : ℕ) → NoneStaysBefore graph marks end → earlier < end
      → LiesOnZeroCycle graph earlier → ⊥
  none_lies_before end earlier none before lies =
      none earlier before lies.edge lies.numbered (stays_on_cycle earlier lies)

  edge_rises : NoneStaysBefore graph marks (length graph.edges) → (number : ℕ) (edge : Edge)
      → slice_get graph.edges number ≡ Some edge → edge.tmin ≡ 0
      → unwrap_or (mark_of marks edge.source) 0 < unwrap_or (mark_of marks edge.target) 0
  edge_rises none number edge at no_time =
      let is = valid_at number edge at in
      let source : IsMarked marks edge.source = groups.all edge.source is.source in
      let target = groups.rises edge source.0 (Contains-at graph.edges number edge at) no_time source.1 in
      let differ : source.0 ≢ target.0 =
      λ same. none number (slice_get_within graph.edges number edge at) edge at
      (no_time, source.1 ∙ ap Some same ∙ sym target.1) in
      omega (
        arith,
        target.2,
        differ,
        ap (λ (o : Option ℕ). unwrap_or o 0) source.1,
        ap
            (λ (o : Option ℕ). unwrap_or o 0) target.1,
      )

  -- where no edge stays in its group, the marks are ranks
  pub HasZeroOrder-groups : (end : ℕ) → length graph.edges ≤ end → NoneStaysBefore graph marks end → HasZeroOrder graph
  HasZeroOrder-groups end all none = record {
    rank = λ node. unwrap_or (mark_of marks node) 0;
    rises = λ k d within. edge_rises (λ number before. none number (omega (arith, before, all))) k
        (get_or graph.edges k d) (slice_get-get_or graph.edges k d within);
  }
