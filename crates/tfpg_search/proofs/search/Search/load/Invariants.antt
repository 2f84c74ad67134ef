use Rattle.std.proofs.Common.{Some, ◌+◌, ◌*◌, ◌≤◌, length}
use Rattle.std.specs.Prelude.{IsTrue}
use Rattle.tfpg_search.specs.SearchState.{case_of_search}
use Rattle.tfpg_search.specs.Work.{NodeBounds, AreFactBounds}
use Rattle.tfpg_search.specs.inside.Counted.{due, CountsAlike}
use Rattle.tfpg_search.specs.inside.AtItsLeaf.{IsAtItsLeaf}
use Rattle.tfpg_search.specs.Searched.{call_of}
use Rattle.tfpg_search.specs.inside.Moves.{KeepsSet, HasFactBounds, Grows, untaken}
use Rattle.tfpg_search.proofs.search.Search.load.Given as goal

abbrev pub invariant-loop-self : goal.invariant-loop-self
invariant-loop-self g l = record {
  stands : IsAtItsLeaf l.graph l.log l.self;
  facts : IsTrue l.has_facts → HasFactBounds l.graph l.log l.self;
  keeps : KeepsSet l.initial.self l.self;
  grows : Grows l.graph l.log (call_of l.initial.self l.self l.initial.steps l.steps) 0 (Some l.self.path);
  counted : CountsAlike l.initial.self.leaf l.self.leaf l.initial.work l.work;
  counts : (bounds : NodeBounds) → AreFactBounds (case_of_search l.graph l.log l.initial.self) bounds →
      l.work + due bounds l.self + 4 * length l.initial.steps ≤ l.initial.work + due bounds l.initial.self + 4 * length l.steps;
}

abbrev pub decreases-loop-self : goal.decreases-loop-self
decreases-loop-self g l = untaken l.self.path
