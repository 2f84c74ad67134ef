use Rattle.std.proofs.Common.{sym, ◌∙◌}
use Rattle.tfpg_clause.proofs.lemmas.trees.Unmarked.{picked_same}
use Rattle.tfpg_clause.proofs.path.picked.Goals as goal

pub returns : goal.returns
returns c = c.picked_on.ensures ∙ sym (picked_same c.args.graph.now c.args.log.now c.args.path.now c.args.split c.args.number)
