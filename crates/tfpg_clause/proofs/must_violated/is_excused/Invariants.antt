use Rattle.std.proofs.Common.{ℕ, ◌<◌, get_or}
use Rattle.std.specs.Prelude.{IsSomeAnd}
use Rattle.tfpg_clause.specs.inside.Alternatives.{due_by_number}
use Rattle.tfpg_clause.specs.inside.FirstSpan.{IsExcused}
use Rattle.tfpg_clause.proofs.must_violated.is_excused.Given as goal

abbrev pub invariant-loop-index : goal.invariant-loop-index
invariant-loop-index l =
    (k : ℕ) → k < l.index → IsSomeAnd (due_by_number l.site.graph.now l.site.log.now l.site.span l.site.horizon (get_or l.edges k 0))
    (IsExcused l.times l.hi) → ⊥
