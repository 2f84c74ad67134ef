-- The bounds of the nodes so far say all their facts, and all else is as it was.
use Rattle.std.proofs.Common.{◌≡◌, ℕ, ◌+◌, ◌<◌, ◌≤◌, length, Option}
use Rattle.tfpg_base.specs.declared.constraint.Constraint.{Constraint}
use Rattle.tfpg_evidence.specs.declared.reason.Reason.{Reason}
use Rattle.tfpg_clause.specs.Facts.{fact}
use Rattle.tfpg_search.specs.inside.Leaf.{pick_reasons, IsStated}
use Rattle.tfpg_search.specs.Work.{NodeBounds, AreFactBounds}
use Rattle.tfpg_search.specs.inside.Counted.{unset, CountsAlike}
use Rattle.tfpg_search.specs.inside.Facts.{AreFactsIn}
use Rattle.tfpg_search.proofs.leaf_system.LeafSystem.add_facts.Given as goal
use Rattle.tfpg_clause.specs.Case.{case_of}

abbrev pub invariant-loop-node : goal.invariant-loop-node
invariant-loop-node g l = record {
  entered : l.self.entered ≡ l.initial.self.entered;
  picks : l.self.demands.picks ≡ l.initial.self.demands.picks;
  reasons : pick_reasons l.self ≡ pick_reasons l.initial.self;
  nodes : length l.self.demands.bounds ≡ length l.initial.self.demands.bounds;
  stated : (stated : Reason → Option Constraint) → IsStated (fact (case_of l.graph l.log l.reach)) stated l.initial.self → IsStated (fact (case_of l.graph l.log l.reach)) stated l.self;
  facts : (node : ℕ) → node < l.node → AreFactsIn (fact (case_of l.graph l.log l.reach)) l.self.demands node;
  identity : l.self.identity ≡ l.initial.self.identity;
  counted : CountsAlike l.initial.self l.self l.initial.work l.work;
  counts : (bounds : NodeBounds) → AreFactBounds (case_of l.graph l.log l.reach) bounds → l.work + unset bounds l.self ≤ l.initial.work + unset bounds l.initial.self;
}
