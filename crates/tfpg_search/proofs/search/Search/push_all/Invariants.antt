use Rattle.std.proofs.Common.{◌≡◌, ◌≤◌, ◌+◌, ◌++◌}
use Rattle.tfpg_search.specs.inside.Counted.{CountsAlike}
use Rattle.tfpg_search.specs.inside.Leaf.{pick_reasons}
use Rattle.tfpg_search.specs.inside.Picks.{picks_from}
use Rattle.tfpg_search.specs.inside.Leaving.{constraint_count_at}
use Rattle.tfpg_search.specs.inside.Leaving.{Pushing}
use Rattle.tfpg_search.proofs.search.Search.push_all.Given as goal
use Rattle.tfpg_clause.specs.Case.{case_of}

abbrev pub invariant-loop-before : goal.invariant-loop-before
invariant-loop-before g l = record {
  same : l.self ≡ record l.initial.self { leaf = l.self.leaf };
  pushing : Pushing (case_of l.graph l.log l.initial.self.reach) l.initial.self.path l.initial.self.leaf l.self.leaf;
  picks : pick_reasons l.self.leaf ≡ pick_reasons l.initial.self.leaf ++ picks_from l.split 1 l.before;
  bounds : l.self.leaf.demands.bounds ≡ l.initial.self.leaf.demands.bounds;
  counts : l.work ≤ l.initial.work + l.before;
  identity : l.self.leaf.identity ≡ l.initial.self.leaf.identity;
  counted : CountsAlike l.initial.self.leaf l.self.leaf l.initial.work l.work;
  within : l.before ≤ constraint_count_at l.graph l.log l.initial.self.path l.split;
}
