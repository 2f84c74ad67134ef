use Rattle.std.proofs.Common.{refl, ap, sym, subst, ◌∙◌, ◌-◌, ℕ, List, Some, None, arith}
use Rattle.std.proofs.Math.Nat.{pos_of_ne-zero}
use Rattle.std.proofs.lemmas.Result.{err_from_is_err_and}
use Rattle.tfpg_evidence.specs.declared.step.Step.{Step}
use Rattle.tfpg_evidence.specs.declared.step.Step.TheVariants.{Cycle}
use Rattle.tfpg_search.specs.inside.Moves.{GrowsAnyhow}
use Rattle.tfpg_search.specs.Searched.{call_of}
use Rattle.tfpg_search.proofs.lemmas.leaves.MovesStayAtLeaf.{nothing, cycle_moves, cycle_is, close_last, close_some, close_ok}
use Rattle.tfpg_search.proofs.search.Search.close.Goals as goal

pub returns-in_err-push-clause-closing : goal.returns-in_err-push-clause-closing
returns-in_err-push-clause-closing c =
    let error = err_from_is_err_and c.from_residual.result c.from_residual.ensures.1 in
    rw error.1
    (subst (λ (after : List Step). GrowsAnyhow c.args.graph.now c.args.log.now (call_of c.args.self.now c.backtrack-goes_on.new.self c.args.steps.now after))
    (sym c.in_err-push.ensures.err) (nothing c.args.graph.now c.args.log.now c.args.self.now c.requires.stands c.args.steps.now c.backtrack-goes_on.new.self))

pub overflow_sub-kept : goal.overflow_sub-kept
overflow_sub-kept c =
    omega (
      arith,
      pos_of_ne-zero {n = c.depth-kept.result}
          (λ none.
          close_some c.args.graph.now c.args.log.now c.args.self.now c.requires.stands c.args.steps.now c.push.new.self (Cycle c.args.reasons) refl (cycle_is c.args.graph.now c.args.log.now c.args.self.now c.requires.stands c.args.steps.now c.args.reasons c.requires.cycle c.requires.not_reusable) c.in_ok-push.ensures.ok c.backtrack-goes_on.new.self
          c.if-not-goes_on.ensures.same (cycle_moves c.args.graph.now c.args.log.now c.args.self.now c.requires.stands c.args.steps.now c.args.reasons c.as_slice.result.now (Some c.backtrack-goes_on.new.self.path) c.requires.cycle
          c.as_slice.ensures c.if-not-goes_on.ensures.path) (sym c.depth-kept.ensures ∙ none)),
    )

pub returns-clause-closing : goal.returns-clause-closing
returns-clause-closing c =
    close_ok c.args.graph.now c.args.log.now c.args.self.now c.requires.stands c.args.steps.now c.push.new.self (Cycle c.args.reasons) refl (cycle_is c.args.graph.now c.args.log.now c.args.self.now c.requires.stands c.args.steps.now c.args.reasons c.requires.cycle c.requires.not_reusable) c.in_ok-push.ensures.ok c.backtrack-goes_on.new.self
    c.if-not-goes_on.ensures.same (cycle_moves c.args.graph.now c.args.log.now c.args.self.now c.requires.stands c.args.steps.now c.args.reasons c.as_slice.result.now (Some c.backtrack-goes_on.new.self.path) c.requires.cycle
    c.as_slice.ensures c.if-not-goes_on.ensures.path)
    c.leave.new.self (c.depth-kept.result - 1) (ap (λ (n : ℕ). n - 1) c.depth-kept.ensures) c.leave.ensures.same c.leave.ensures.leaf

pub returns-then-not-goes_on-clause-closing : goal.returns-then-not-goes_on-clause-closing
returns-then-not-goes_on-clause-closing c =
    close_last c.args.graph.now c.args.log.now c.args.self.now c.requires.stands c.args.steps.now c.push.new.self (Cycle c.args.reasons) refl (cycle_is c.args.graph.now c.args.log.now c.args.self.now c.requires.stands c.args.steps.now c.args.reasons c.requires.cycle c.requires.not_reusable) c.in_ok-push.ensures.ok c.backtrack-goes_on.new.self
    (cycle_moves c.args.graph.now c.args.log.now c.args.self.now c.requires.stands c.args.steps.now c.args.reasons c.as_slice.result.now None c.requires.cycle
    c.as_slice.ensures c.if-not-goes_on.ensures.path.0)
