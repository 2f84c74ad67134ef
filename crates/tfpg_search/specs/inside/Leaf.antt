-- The system of the present leaf: what it demands of the times of the nodes, and for which reasons.
use Rattle.std.specs.Prelude.{◌≡◌, ℕ, ◌*◌, pos, List, length, map, drop, Option, Some, slice_get, option_and_then}
use Rattle.tfpg_base.specs.declared.constraint.Constraint.{Constraint}
use Rattle.tfpg_evidence.specs.declared.reason.Reason.{Reason}
use Rattle.tfpg_evidence.specs.declared.reason.Reason.TheVariants.{Zero, Top}
use Rattle.tfpg_base.specs.Bounds.{at_most, at_least}
use Rattle.tfpg_diff.specs.declared.why.Why.{Why}
use Rattle.tfpg_diff.specs.declared.why.Why.TheVariants.{Floor, Ceiling, Given}
use Rattle.tfpg_diff.specs.VariableBounds.{VariableBounds}
use Rattle.tfpg_diff.specs.declared.pick.Pick.{Pick}
use Rattle.tfpg_diff.specs.Demands.{Demands, Bounded}
use Rattle.tfpg_search.specs.Work.{NodeBounds}

-- What contracts see of it: the demands, the reason of each tag, how many picks stand before each alternative that is entered, how
-- many calls it has counted, and which system it is. The tag of a node's lower bound is the node's number. The tag of its upper bound
-- is that number plus the number of nodes. The tag of a pick is its index plus the number of all bounds.
pub record Leaf : Type 0 where
  pub demands : Demands
  pub reasons : List Reason
  pub entered : List ℕ
  pub calls : ℕ
  pub identity : ℕ

-- the reasons of the picks, in their order
abbrev pub pick_reasons : Leaf → List Reason
pick_reasons leaf = drop (2 * length leaf.demands.bounds) leaf.reasons

-- the bounds of the nodes in the system
abbrev pub bounds_in : Leaf → NodeBounds
bounds_in leaf = record {
  lows = map (λ (bounds : VariableBounds). bounds.floor) leaf.demands.bounds;
  highs = map (λ (bounds : VariableBounds). bounds.ceiling) leaf.demands.bounds;
}

-- the constraint that a tag names, where these are the reasons of the tags
abbrev pub tagged_by : (Reason → Option Constraint) → List Reason → Why → Option Constraint
tagged_by stated reasons (Floor variable) = stated (Zero variable)
tagged_by stated reasons (Ceiling variable) = stated (Top variable)
tagged_by stated reasons (Given tag) = option_and_then stated (slice_get reasons tag)

-- Each bound is stated by its reason, which is a fact.
pub record AreBoundsStated (fact : Reason → Option Constraint) (demands : Demands) (reasons : List Reason) : Type 0 where
  pub floors : (node : ℕ) (bounds : VariableBounds) → Bounded demands node bounds →
      tagged_by fact reasons bounds.floor_why ≡ Some (at_least node bounds.floor)
  pub ceilings : (node : ℕ) (bounds : VariableBounds) → Bounded demands node bounds →
      tagged_by fact reasons bounds.ceiling_why ≡ Some (at_most node (pos bounds.ceiling))

-- Each pick is stated by the reason at the same index.
abbrev pub ArePicksStated : (Reason → Option Constraint) → Demands → List Reason → Type 0
ArePicksStated stated demands reasons =
    (index : ℕ) (pick : Pick) → slice_get demands.picks index ≡ Some pick
    → option_and_then stated (slice_get (drop (2 * length demands.bounds) reasons) index) ≡ Some pick.constraint

-- All demands are stated: bounds by facts, and picks by reasons that hold at the leaf. Each fact holds at the leaf.
pub record AreStated (fact stated : Reason → Option Constraint) (demands : Demands) (reasons : List Reason) : Type 0 where
  pub wider : (reason : Reason) (constraint : Constraint) → fact reason ≡ Some constraint
      → stated reason ≡ Some constraint
  pub bounds : AreBoundsStated fact demands reasons
  pub picks : ArePicksStated stated demands reasons

-- All that the system demands is stated.
abbrev pub IsStated : (Reason → Option Constraint) → (Reason → Option Constraint) → Leaf → Type 0
IsStated fact stated leaf = AreStated fact stated leaf.demands leaf.reasons
