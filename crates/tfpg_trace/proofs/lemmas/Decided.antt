-- What is a member where it cannot be outside.
use Rattle.std.proofs.Common.{◌≡◌, ℕ, List, Option, Some, None, refl}
use Rattle.std.specs.Prelude.{IsTrue}
use Rattle.tfpg_base.proofs.lemmas.lists.Decided.{Contains-from_never}
use Rattle.tfpg_graph.specs.Graph.{Tfpg, is_kind_at, is_failure, position_of_failure}
use Rattle.tfpg_log.specs.Explains.{IsMember}
use Rattle.tfpg_trace.proofs.lemmas.FailureModes.{member_by_position, no_failure}

-- a failure mode that cannot be outside is a member
pub member_or_not : (graph : Tfpg) (set : List ℕ) (node : ℕ) → IsTrue (is_kind_at is_failure graph node)
    → ((IsMember graph set node → ⊥) → ⊥) → IsMember graph set node
member_or_not graph set node failure never = by (position_of_failure graph node) refl
  where
    by : (position : Option ℕ) → position_of_failure graph node ≡ position → IsMember graph set node
    by None none = absurd (no_failure graph node none failure)
    by (Some position) at =
        let same = member_by_position graph set position node at in
        same.1 (Contains-from_never set position (λ missing. never (λ member. missing (same.0 member))))
