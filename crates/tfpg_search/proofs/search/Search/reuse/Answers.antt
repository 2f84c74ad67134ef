use Rattle.std.proofs.Common.{refl, ap, sym, subst, ◌-◌, ℕ, List, Some}
use Rattle.std.proofs.lemmas.Result.{err_from_is_err_and}
use Rattle.tfpg_evidence.specs.declared.step.Step.{Step}
use Rattle.tfpg_evidence.specs.declared.step.Step.TheVariants.{Again}
use Rattle.tfpg_search.specs.inside.Moves.{GrowsAnyhow}
use Rattle.tfpg_search.specs.Searched.{call_of}
use Rattle.tfpg_search.proofs.lemmas.leaves.MovesStayAtLeaf.{nothing, reuse_moves, close_ok}
use Rattle.tfpg_search.proofs.search.Search.reuse.Goals as goal

pub returns-in_err-push-clause-closing : goal.returns-in_err-push-clause-closing
returns-in_err-push-clause-closing c =
    let error = err_from_is_err_and c.from_residual.result c.from_residual.ensures.1 in
    rw error.1
    (subst (λ (after : List Step). GrowsAnyhow c.args.graph.now c.args.log.now (call_of c.args.self.now c.args.self.now c.args.steps.now after))
    (sym c.in_err-push.ensures.err) (nothing c.args.graph.now c.args.log.now c.args.self.now c.requires.stands c.args.steps.now c.args.self.now))

pub returns-clause-closing : goal.returns-clause-closing
returns-clause-closing c =
    close_ok c.args.graph.now c.args.log.now c.args.self.now c.requires.stands c.args.steps.now c.push.new.self Again refl c.requires.reusable c.in_ok-push.ensures.ok c.drop_last.new.self
    c.if-not-drop_last.ensures.same
    (reuse_moves c.args.graph.now c.args.log.now c.args.self.now c.requires.stands c.args.steps.now (Some c.drop_last.new.self.path) c.requires.reusable c.if-not-drop_last.ensures.path)
    c.leave.new.self (c.depth-kept.result - 1) (ap (λ (n : ℕ). n - 1) c.depth-kept.ensures) c.leave.ensures.same c.leave.ensures.leaf
