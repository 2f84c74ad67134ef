use Rattle.std.proofs.Common.{ℕ, ◌<◌, List, length, All, sym, subst}
use Rattle.tfpg_graph.specs.Graph.{Tfpg}
use Rattle.tfpg_graph.proofs.lemmas.Numbered.{incoming-below}
use Rattle.tfpg_graph.proofs.graph.Graph.incoming.Goals as goal

pub returns-clause-within : goal.returns-clause-within
returns-clause-within c =
    let graph = c.self.inside.declared in
    subst (λ (g : Tfpg). All (λ edge. edge < length g.edges) c.incoming.result.now) c.self.view_is
    (subst (λ (numbers : List ℕ). All (λ edge. edge < length graph.edges) numbers) (sym c.incoming.ensures.edges) (incoming-below graph c.args.node))
