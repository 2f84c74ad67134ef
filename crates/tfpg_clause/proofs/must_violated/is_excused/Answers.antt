use Rattle.std.proofs.Common.{refl, sym, subst, ◌∙◌, arith, get_or}
use Rattle.std.specs.Prelude.{IsSomeAnd}
use Rattle.std.proofs.lemmas.Bool.{false≢true}
use Rattle.std.proofs.lemmas.List.{get_or_default}
use Rattle.std.proofs.lemmas.List.Elements.{Contains-get_or}
use Rattle.tfpg_clause.specs.inside.Alternatives.{due_by_number}
use Rattle.tfpg_clause.specs.inside.FirstSpan.{IsExcused}
use Rattle.tfpg_clause.proofs.must_violated.is_excused.Goals as goal

pub returns-then-is_excused_by : goal.returns-then-is_excused_by
returns-then-is_excused_by c = (
  λ yes. (
    get_or c.args.edges.now c.loop-index.index 0,
    Contains-get_or c.args.edges.now c.loop-index.index 0 c.loop-index-test.true,
    c.is_excused_by.ensures.0 c.if-is_excused_by.true,
  ),
  λ excuse. refl,
)

pub returns : goal.returns
returns c = (
  λ yes. absurd (false≢true yes),
  λ excuse.
      let index = excuse.1 in
      absurd
      (c.loop-index.invariant index.0 (omega arith)
      (subst
      (λ edge. IsSomeAnd (due_by_number c.args.site.now.graph.now c.args.site.now.log.now c.args.site.now.span c.args.site.now.horizon edge)
      (IsExcused c.args.times.now c.args.hi))
      (sym (get_or_default c.args.edges.now index.0 0 excuse.0 index.1 ∙ index.2)) excuse.2)),
)
