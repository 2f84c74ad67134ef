-- Failure modes by their positions, and whether one is a member of a set.
use Rattle.std.proofs.Common.{◌≡◌, ℕ, ◌<◌, ◌≤◌, Bool, true, false, not, nat_eq, List, length, get_or, Option, Some, None, slice_get, refl, ap, sym, subst, inl, inr, ◌⊎◌, ◌∙◌, arith}
use Rattle.std.specs.Prelude.{IsTrue, Contains, ◌↔◌}
use Rattle.std.specs.Option.{option_map, option_map_or}
use Rattle.std.proofs.lemmas.Bool.{false≢true, eqb-true, eqb-false}
use Rattle.std.proofs.lemmas.List.Quantifiers.{position-Some}
use Rattle.std.proofs.lemmas.List.Elements.{All-get_or}
use Rattle.std.proofs.lemmas.Option.{slice_get-get_or, slice_get_within, get_or_from_slice_get, slice_get_cases}
use Rattle.tfpg_graph.specs.Graph.{Tfpg, Node, is_kind_at, is_failure, failures, failure_at, position_of_failure}
use Rattle.tfpg_graph.proofs.lemmas.NodeAt.{is_kind_at-item}
use Rattle.tfpg_base.proofs.lemmas.lists.Positions.{All-none}
use Rattle.tfpg_log.specs.Explains.{IsMember}
use Rattle.tfpg_trace.specs.inside.Strays.{IsOutside}
use Rattle.tfpg_base.proofs.lemmas.lists.Numbered.{item_of, one_index, number_of}

module _ (graph : Tfpg) where
  -- the node at a position is a failure mode
  pub is_failure_there : (position node : ℕ) → failure_at graph position ≡ Some node → IsTrue (is_kind_at is_failure graph node)
  is_failure_there position node at =
      let of = item_of (λ n. is_failure n.kind) 0 graph.nodes position node at in
      let same : of.index ≡ node = omega (arith, of.counted) in
      is_kind_at-item graph node is_failure of.item (ap (slice_get graph.nodes) (sym same) ∙ of.at) ∙ of.passes

  -- the position of a node is where it stands
  pub stands_there : (position node : ℕ) → position_of_failure graph node ≡ Some position → failure_at graph position ≡ Some node
  stands_there position node at =
      let found = position-Some (λ failure. nat_eq failure node) (failures graph) position 0 at in
      slice_get-get_or (failures graph) position 0 found.0 ∙ ap Some (eqb-true (get_or (failures graph) position 0) node found.1)

  -- a node without a position is no failure mode
  pub no_failure : (node : ℕ) → position_of_failure graph node ≡ None → IsTrue (is_kind_at is_failure graph node) → ⊥
  no_failure node none failure = by (slice_get_cases graph.nodes node)
    where
      by : (slice_get graph.nodes node ≡ slice_get graph.nodes node)
          × (((item : Node) × (node < length graph.nodes) × (slice_get graph.nodes node ≡ Some item)
          × (get_or graph.nodes node item ≡ item)) ⊎ ((length graph.nodes ≤ node) × (slice_get graph.nodes node ≡ None)))
          → ⊥
      by (same, inl there) =
          let at =
          number_of (λ n. is_failure n.kind) 0 graph.nodes node there.0 there.2
          (sym (is_kind_at-item graph node is_failure there.0 there.2) ∙ failure) in
          let found : slice_get (failures graph) at.0 ≡ Some node = at.1 ∙ ap Some (omega arith) in
          let fails =
          All-get_or (λ other. nat_eq other node ≡ false) (failures graph) at.0 0 (slice_get_within (failures graph) at.0 node found)
          (All-none (λ other. nat_eq other node) (failures graph) none) in
          eqb-false (get_or (failures graph) at.0 0) node fails (get_or_from_slice_get (failures graph) at.0 node 0 found)
      by (same, inr past) =
          false≢true (sym (ap (λ (there : Option Node). option_map_or is_failure (option_map (λ n. n.kind) there) false) past.1) ∙ failure)

  module _ (set : List ℕ) where
    -- a failure mode is a member exactly where its position is
    pub member_by_position : (position node : ℕ) → position_of_failure graph node ≡ Some position
        → IsMember graph set node ↔ Contains set position
    member_by_position position node at = (
      λ member.
          subst (Contains set)
          (one_index (λ n. is_failure n.kind) 0 graph.nodes member.0 position node member.2 (stands_there position node at)) member.1,
      λ has. (position, has, stands_there position node at),
    )

    -- a failure mode is outside exactly where its position is no member
    pub outside_by_position : (position node : ℕ) (has : Bool) → position_of_failure graph node ≡ Some position
        → IsTrue has ↔ Contains set position
        → IsTrue (not has) ↔ IsOutside graph set node
    outside_by_position position node true at member = (
      λ no. absurd (false≢true no),
      λ outside. absurd (outside.outside ((member_by_position position node at).1 (member.0 refl))),
    )
    outside_by_position position node false at member = (
      λ yes. record {
        failure = is_failure_there position node (stands_there position node at);
        outside = λ inside. false≢true (member.1 ((member_by_position position node at).0 inside));
      },
      λ outside. refl,
    )

    -- a node without a position is not outside
    pub none_outside : (node : ℕ) → position_of_failure graph node ≡ None → IsTrue false ↔ IsOutside graph set node
    none_outside node none = (λ no. absurd (false≢true no), λ outside. absurd (no_failure node none outside.failure))
