use Rattle.std.proofs.Common.{sym, ap, ◌∙◌, subst, List, [], ◌∷◌, ◌++◌}
use Rattle.std.proofs.lemmas.Result.{err_from_is_err_and}
use Rattle.tfpg_evidence.specs.declared.step.Step.{Step}
use Rattle.tfpg_clause.specs.Clauses.{count_of}
use Rattle.tfpg_clause.specs.declared.path.PathSplit.{PathSplit}
use Rattle.tfpg_clause.proofs.lemmas.trees.LeafPaths.{new_split_some}
use Rattle.tfpg_search.specs.SearchState.{SearchState}
use Rattle.tfpg_search.specs.inside.Moves.{GrowsAnyhow}
use Rattle.tfpg_search.specs.Searched.{call_of}
use Rattle.tfpg_search.proofs.lemmas.leaves.MovesStayAtLeaf.{nothing, split_ok}
use Rattle.tfpg_search.proofs.search.Search.split.Goals as goal

pub returns-in_err-descend-clause-splitting : goal.returns-in_err-descend-clause-splitting
returns-in_err-descend-clause-splitting c =
    let error = err_from_is_err_and c.from_residual.result c.from_residual.ensures.1 in
    rw error.1 (nothing c.args.graph.now c.args.log.now c.args.self.now c.requires.stands c.args.steps.now c.descend.new.self)

pub returns-in_err-push-clause-splitting : goal.returns-in_err-push-clause-splitting
returns-in_err-push-clause-splitting c =
    let error = err_from_is_err_and c.from_residual-in_err-push.result c.from_residual-in_err-push.ensures.1 in
    rw error.1
    (subst (λ (after : List Step). GrowsAnyhow c.args.graph.now c.args.log.now (call_of c.args.self.now c.descend.new.self c.args.steps.now after))
    (sym c.in_err-push.ensures.err) (nothing c.args.graph.now c.args.log.now c.args.self.now c.requires.stands c.args.steps.now c.descend.new.self))

pub returns-clause-splitting : goal.returns-clause-splitting
returns-clause-splitting c =
    let old : SearchState = c.args.self.now in
    let is = new_split_some c.args.name (count_of c.args.graph.now c.args.log.now c.args.name) c.in-Some.split c.in-Some.ensures in
    split_ok c.args.graph.now c.args.log.now old c.requires.stands c.args.steps.now c.descend.new.self c.push.new.self c.args.name c.in-Some.split.alternatives c.requires.entered
    c.requires.live c.requires.not_reusable is.0 (c.clause_laws.ensures.some c.args.graph.now c.args.log.now c.args.name c.in-Some.split.alternatives is.0)
    (c.in_ok-descend.ensures.ok ∙ ap (λ (split : PathSplit). record old { path = old.path ++ split ∷ [] }) is.1) c.in_ok-push.ensures.ok
