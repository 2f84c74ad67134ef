use Rattle.std.proofs.Common.{◌∙◌}
use Rattle.tfpg_clause.proofs.lemmas.trees.Unmarked.{picked_same}
use Rattle.tfpg_search.proofs.search.entering.picked_on.Goals as goal

pub returns : goal.returns
returns c = c.picked.ensures ∙ picked_same c.args.graph.now c.args.log.now c.args.path.now c.args.split c.args.number
