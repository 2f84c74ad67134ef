use Rattle.std.proofs.Common.{◌≡◌, ◌≤◌, take, Some}
use Rattle.tfpg_clause.specs.inside.Alternatives.{dues_over, latest_within}
use Rattle.tfpg_clause.proofs.must.latest_due.Given as goal

abbrev pub invariant-loop-index : goal.invariant-loop-index
invariant-loop-index l =
    (latest_within l.hi (dues_over l.site.graph.now l.site.log.now l.site.span l.site.horizon (take l.index l.edges)) ≡ Some l.latest)
    × (l.latest ≤ l.hi)
