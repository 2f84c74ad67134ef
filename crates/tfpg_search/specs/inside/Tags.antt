-- The tags of the system of a leaf.
use Rattle.std.specs.Prelude.{◌≡◌, ◌⊎◌, ℕ, ◌+◌, ◌*◌, ◌<◌, List, length, Some, slice_get, slice_index_or}
use Rattle.tfpg_evidence.specs.declared.reason.Reason.{Reason}
use Rattle.tfpg_evidence.specs.declared.reason.Reason.TheVariants.{Zero, Top}
use Rattle.tfpg_diff.specs.declared.why.Why.{Why}
use Rattle.tfpg_diff.specs.declared.why.Why.TheVariants.{Floor, Ceiling, Given}
use Rattle.tfpg_diff.specs.VariableBounds.{VariableBounds}
use Rattle.tfpg_diff.specs.declared.pick.Pick.{Pick}
use Rattle.tfpg_diff.specs.Demands.{Demands, Bounded}

-- Each tag is the index of its reason: first the lower bounds of the nodes, then their upper bounds, then the picks.
pub record IsTagged (demands : Demands) (reasons : List Reason) : Type 0 where
  pub one_each : length reasons ≡ 2 * length demands.bounds + length demands.picks
  pub floors : (node : ℕ) (bounds : VariableBounds) → Bounded demands node bounds →
      (bounds.floor_why ≡ Floor node) ⊎ (bounds.floor_why ≡ Given node)
  pub ceilings : (node : ℕ) (bounds : VariableBounds) → Bounded demands node bounds →
      (bounds.ceiling_why ≡ Ceiling node) ⊎ (bounds.ceiling_why ≡ Given (length demands.bounds + node))
  pub picks : (index : ℕ) (pick : Pick) → slice_get demands.picks index ≡ Some pick →
      pick.tag ≡ 2 * length demands.bounds + index

-- The tag is the index of one of these reasons, or names a bound that no reason set.
abbrev pub HasReason : List Reason → Why → Type 0
HasReason reasons (Floor node) = Unit {0}
HasReason reasons (Ceiling node) = Unit {0}
HasReason reasons (Given tag) = tag < length reasons

-- the reason of a tag
abbrev pub reason_of : List Reason → Why → Reason
reason_of reasons (Floor node) = Zero node
reason_of reasons (Ceiling node) = Top node
reason_of reasons (Given tag) = slice_index_or reasons tag (Zero 0)
