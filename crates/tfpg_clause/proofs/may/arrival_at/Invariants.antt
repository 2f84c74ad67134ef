use Rattle.std.proofs.Common.{◌≡◌, drop, slice_get}
use Rattle.tfpg_clause.specs.inside.Alternatives.{arrivals_over}
use Rattle.tfpg_clause.proofs.may.arrival_at.Given as goal

abbrev pub invariant-loop-edge : goal.invariant-loop-edge
invariant-loop-edge l =
    slice_get (arrivals_over l.site.graph.now l.site.log.now l.site.span l.site.horizon l.span l.edges) l.index
    ≡ slice_get (arrivals_over l.site.graph.now l.site.log.now l.site.span l.site.horizon l.span (drop l.edge-index l.edges)) l.left
