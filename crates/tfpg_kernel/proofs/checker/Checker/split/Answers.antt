use Rattle.std.proofs.Common.{[], ◌∷◌, ◌++◌, List, Some, ap, refl, ◌∙◌}
use Rattle.tfpg_clause.specs.declared.path.PathSplit.{PathSplit}
use Rattle.tfpg_clause.specs.Clauses.{count_of}
use Rattle.tfpg_clause.proofs.lemmas.trees.LeafPaths.{new_split_some, new_split_none}
use Rattle.tfpg_kernel.proofs.checker.Checker.split.Goals as goal

pub returns-in-Some-clause-moves : goal.returns-in-Some-clause-moves
returns-in-Some-clause-moves c =
    let is = new_split_some c.args.name (count_of c.args.graph.now c.args.log.now c.args.name) c.in-Some.split c.in-Some.ensures in
    let path = c.enter.ensures.path ∙ ap (λ (split : PathSplit). c.args.self.now.path ++ split ∷ []) is.1 in
    ((c.in-Some.split.alternatives, is.0, ap (λ (path : List PathSplit). Some path) path), c.enter.ensures.closed ∙ c.requires.not_closed)

pub returns-in-None-clause-moves : goal.returns-in-None-clause-moves
returns-in-None-clause-moves c = ((refl, new_split_none c.args.name (count_of c.args.graph.now c.args.log.now c.args.name) c.in-None.ensures), refl)
