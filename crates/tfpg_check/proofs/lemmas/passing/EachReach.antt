-- Each set of failure modes has a reach.
use Rattle.std.proofs.Common.{◌⊎◌, ℕ, zero, suc, ◌+◌, ◌<◌, ◌≤◌, List, [], length, Option, Some, None, inl, inr, subst, arith, add-one}
use Rattle.std.specs.List.{Contains}
use Rattle.std.specs.Option.{IsSomeAnd}
use Rattle.tfpg_base.specs.Set.{with_member}
use Rattle.tfpg_base.specs.declared.limits.TheConstants.{MAX_NODE_NUMBERS}
use Rattle.tfpg_base.proofs.lemmas.NodeSets.{IsNodeSet-few}
use Rattle.tfpg_base.proofs.lemmas.Sets.{length-with_new_member}
use Rattle.tfpg_base.proofs.lemmas.lists.Decided.{IsDecided, first_below, some_member_decided, all_members_decided}
use Rattle.tfpg_base.proofs.lemmas.lists.Elements.{slice_get-there}
use Rattle.tfpg_graph.specs.declared.edge.Edge.{Edge}
use Rattle.tfpg_graph.specs.declared.kind.Kind.{Kind}
use Rattle.tfpg_graph.specs.declared.kind.Kind.TheVariants.{Failure, Or, And}
use Rattle.tfpg_graph.specs.Graph.{Tfpg, failures, kind_at, edges_into}
use Rattle.tfpg_graph.specs.Reach.{IsReach}
use Rattle.tfpg_graph.specs.Valid.{IsValid}
use Rattle.tfpg_graph.specs.inside.reach.Reaching.{IsFedAs, IsFed, AreReached}
use Rattle.tfpg_graph.proofs.lemmas.reach.Reaches.{Widens-with, AreReached-widened, AreReachedBefore, AreReachedBefore-none, AreReachedBefore-with, AreReachedBefore-without, AreReachedBefore-all, IsReach-full, own_small}
use Rattle.tfpg_check.proofs.lemmas.passing.DecidedParts.{member_decided}

module _ (graph : Tfpg) (nodes : List ℕ) (node : ℕ) where
  -- whether these feed a node of such a kind is decided
  fed_as_decided : (kind : Kind) → IsDecided (IsFedAs graph nodes node kind)
  fed_as_decided (Failure rarity) = inr (λ fed. fed)
  fed_as_decided (Or lag) = some_member_decided (λ (edge : Edge). Contains nodes edge.source) (λ edge. member_decided nodes edge.source) (edges_into graph node)
  fed_as_decided (And lag) = all_members_decided (λ (edge : Edge). Contains nodes edge.source) (λ edge. member_decided nodes edge.source) (edges_into graph node)

  fed_decided : IsDecided (IsFed graph nodes node)
  fed_decided = by (kind_at graph node)
    where
      by : (kind : Option Kind) → IsDecided (IsSomeAnd kind (IsFedAs graph nodes node))
      by None = inr (λ fed. fed)
      by (Some kind) = fed_as_decided kind

module _ (graph : Tfpg) (valid : IsValid graph) (set : List ℕ) where
  -- the nodes of the set's own failure modes before a position
  own_nodes : (end : ℕ) → end ≤ length (failures graph) → (nodes : List ℕ) × AreReachedBefore graph set end nodes
  own_nodes zero within = ([], AreReachedBefore-none graph set)
  own_nodes (suc end) within =
      let before = own_nodes end (omega (arith, within)) in
      let there = slice_get-there (failures graph) end within in
      elim (member_decided set end) [
        | inl member ↦ (
          with_member there.0 before.0,
          subst (λ (n : ℕ). AreReachedBefore graph set n (with_member there.0 before.0)) (add-one end)
              (AreReachedBefore-with graph set end before.0 before.1 there.0 (own_small graph set valid end there.0 there.1) member there.1),
        )
        | inr lacks ↦ (before.0, subst (λ (n : ℕ). AreReachedBefore graph set n before.0) (add-one end) (AreReachedBefore-without graph set end before.0 before.1 lacks))
      ]

  -- These feed a node that is none of them.
  abbrev IsNext : List ℕ → ℕ → Type 0
  IsNext nodes node = IsFed graph nodes node × (Contains nodes node → ⊥)

  next_or_full : (nodes : List ℕ) (node : ℕ) → IsNext nodes node ⊎ (IsFed graph nodes node → Contains nodes node)
  next_or_full nodes node = elim (member_decided nodes node) [
    | inl member ↦ inr (λ fed. member)
    | inr lacks ↦ elim (fed_decided graph nodes node) [
      | inl fed ↦ inl (fed, lacks)
      | inr not_fed ↦ inr (λ fed. absurd (not_fed fed))
    ]
  ]

  -- some node more, or none is fed
  wider_or_whole : (nodes : List ℕ) → AreReached graph set nodes → ((wider : List ℕ) × AreReached graph set wider × (length nodes < length wider)) ⊎ IsReach graph set nodes
  wider_or_whole nodes are = elim (first_below (IsNext nodes) (λ node. IsFed graph nodes node → Contains nodes node) (next_or_full nodes) (length graph.nodes)) [
    | inl found ↦ (let small = valid.so_far.few_nodes in let below = found.1.below in
        let widens = Widens-with graph nodes found.0 (omega (arith, small, below)) found.1.holds.1 found.1.holds.0 in
        inl (with_member found.0 nodes, AreReached-widened graph set nodes (with_member found.0 nodes) widens are, omega (arith, length-with_new_member found.0 nodes found.1.holds.1)))
    | inr full ↦ inr (IsReach-full graph set nodes are full)
  ]

  -- with one more node after the other, until no other one is fed
  filled : (room : ℕ) (nodes : List ℕ) → AreReached graph set nodes → MAX_NODE_NUMBERS ≤ room + length nodes → (reach : List ℕ) × IsReach graph set reach
  filled zero nodes are enough = elim (wider_or_whole nodes are) [
    | inl wider ↦ (let many = wider.2 in absurd (omega (arith, enough, many, IsNodeSet-few wider.0 wider.1.is_set)))
    | inr whole ↦ (nodes, whole)
  ]
  filled (suc room) nodes are enough = elim (wider_or_whole nodes are) [
    | inl wider ↦ (let many = wider.2 in filled room wider.0 wider.1 (omega (arith, enough, many)))
    | inr whole ↦ (nodes, whole)
  ]

  -- The set has a reach.
  pub reach_there : (reach : List ℕ) × IsReach graph set reach
  reach_there =
      let own = own_nodes (length (failures graph)) (omega arith) in
      filled MAX_NODE_NUMBERS own.0 (AreReachedBefore-all graph set (length (failures graph)) own.0 own.1 (omega arith)) (omega arith)
