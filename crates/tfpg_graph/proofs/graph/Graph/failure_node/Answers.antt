use Rattle.std.proofs.Common.{◌<◌, length, subst}
use Rattle.tfpg_graph.specs.Graph.{Tfpg}
use Rattle.tfpg_graph.proofs.lemmas.Numbered.{failure_at-below}
use Rattle.tfpg_graph.proofs.graph.Graph.failure_node.Goals as goal

pub returns-clause-within : goal.returns-clause-within
returns-clause-within c =
    subst (λ (g : Tfpg). c.failure_node.result < length g.nodes) c.self.view_is
    (failure_at-below c.self.inside.declared c.args.place c.failure_node.result c.failure_node.ensures)
