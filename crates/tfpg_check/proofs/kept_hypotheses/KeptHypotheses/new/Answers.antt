use Rattle.std.proofs.Common.{refl}
use Rattle.std.proofs.lemmas.Result.{err_from_is_err_and}
use Rattle.tfpg_base.proofs.lemmas.lists.Choices.{ok-err}
use Rattle.tfpg_base.proofs.lemmas.lists.Sequences.{not_above}
use Rattle.tfpg_hyp.specs.declared.limits.TheConstants.{MAX_HYPOTHESES}
use Rattle.tfpg_check.proofs.lemmas.judging.NewHypotheses.{new_keeps, too_many_by, not_too_many, one_checker_each}
use Rattle.tfpg_check.proofs.kept_hypotheses.KeptHypotheses.new.Goals as goal

pub returns-in_err-table-clause-too_many : goal.returns-in_err-table-clause-too_many
returns-in_err-table-clause-too_many c count =
    let failed = err_from_is_err_and c.from_residual.result c.from_residual.ensures.1 in
    too_many_by c.from_residual.result failed.0 c.in_err-table.field-0.0 count failed.1 failed.2 (c.in_err-table.ensures.too_many c.args.terms refl refl count)

pub returns-in_err-largest_parts-clause-too_many : goal.returns-in_err-largest_parts-clause-too_many
returns-in_err-largest_parts-clause-too_many c count =
    let failed = err_from_is_err_and c.from_residual-in_err-largest_parts.result c.from_residual-in_err-largest_parts.ensures.1 in
    not_too_many c.from_residual-in_err-largest_parts.result failed.0 count failed.1 failed.2 (λ many. ok-err _ _ ((c.in_ok-table.ensures.too_many c.args.terms refl refl count).1 many))

pub returns-in_err-checkers-clause-too_many : goal.returns-in_err-checkers-clause-too_many
returns-in_err-checkers-clause-too_many c count =
    let failed = err_from_is_err_and c.from_residual-in_err-checkers.result c.from_residual-in_err-checkers.ensures.1 in
    not_too_many c.from_residual-in_err-checkers.result failed.0 count failed.1 failed.2 (λ many. ok-err _ _ ((c.in_ok-table.ensures.too_many c.args.terms refl refl count).1 many))

pub invariant_of-result : goal.invariant_of-result
invariant_of-result c = (
  one_checker_each c.args.graph.now c.args.terms c.in_ok-table.table c.in_ok-checkers.checkers.items (c.in_ok-table.ensures.table c.args.terms refl refl) c.in_ok-checkers.ensures,
  c.in_ok-largest_parts.ensures,
  tt,
)

pub returns-clause-keeps : goal.returns-clause-keeps
returns-clause-keeps c =
    new_keeps c.args.graph.now c.args.terms c.in_ok-table.table c.in_ok-checkers.checkers.items (c.in_ok-table.ensures.table c.args.terms refl refl) c.in_ok-checkers.ensures

pub returns-clause-table : goal.returns-clause-table
returns-clause-table c = c.in_ok-table.ensures.table c.args.terms refl refl

pub returns-clause-too_many : goal.returns-clause-too_many
returns-clause-too_many c count = (λ is. absurd (ok-err _ _ is), λ many. absurd (ok-err _ _ ((c.in_ok-table.ensures.too_many c.args.terms refl refl count).1 many)))

pub returns-clause-few : goal.returns-clause-few
returns-clause-few c count has = not_above count MAX_HYPOTHESES (λ many. ok-err _ _ ((c.in_ok-table.ensures.too_many c.args.terms refl refl count).1 (many, has)))
