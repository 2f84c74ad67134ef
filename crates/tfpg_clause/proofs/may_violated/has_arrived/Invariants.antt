use Rattle.std.proofs.Common.{ℕ, ◌<◌, get_or}
use Rattle.std.specs.Prelude.{All, IsSomeAnd}
use Rattle.tfpg_base.specs.Constraint.{Meets}
use Rattle.tfpg_clause.specs.inside.Alternatives.{arrival_over}
use Rattle.tfpg_clause.proofs.may_violated.has_arrived.Given as goal

abbrev pub invariant-loop-edge : goal.invariant-loop-edge
invariant-loop-edge l =
    (k : ℕ) → k < l.edge-index → IsSomeAnd
    (arrival_over l.site.graph.now l.site.log.now l.site.span l.site.horizon l.span (get_or l.edges k 0)) (All (Meets l.times)) → ⊥
