use Rattle.std.proofs.Common.{◌≡◌, ◌≤◌, length, take}
use Rattle.tfpg_clause.specs.inside.Alternatives.{arrivals_over}
use Rattle.tfpg_clause.proofs.may.arrival_count.Given as goal

abbrev pub invariant-loop-edge : goal.invariant-loop-edge
invariant-loop-edge l =
    (l.count ≡ length (arrivals_over l.site.graph.now l.site.log.now l.site.span l.site.horizon l.span (take l.edge-index l.edges)))
    × (l.count ≤ l.edge-index)
