use Rattle.std.proofs.Common.{rules, ◌≡◌, ◌∙◌}
use Rattle.std.proofs.lemmas.Option.{IfSome_then}
use Rattle.tfpg_graph.specs.Graph.{node_named}
use Rattle.tfpg_graph.proofs.lemmas.declaring.Named.{index_of-node, IfSome-named}
use Rattle.tfpg_graph.proofs.declared.Declared.find.Goals as goal
use Rattle.tfpg_graph.proofs.declared.Declared.find.Goals.{After-map}

node_is : (c : After-map) → c.map.result ≡ node_named c.args.self.now c.args.name.now
node_is c =
    let same : c.map.result ≡ c.get_index_of.result = search rules in
    rw (← c.self.view_is) (same ∙ c.get_index_of.ensures.index ∙ index_of-node c.self.inside c.args.name.now)

pub returns-clause-node : goal.returns-clause-node
returns-clause-node c = node_is c

pub returns-clause-within : goal.returns-clause-within
returns-clause-within c = IfSome_then c.map.result (IfSome-named c.args.self.now c.args.name.now c.map.result (node_is c)) (λ node is. is.0)

pub returns-clause-named : goal.returns-clause-named
returns-clause-named c = IfSome_then c.map.result (IfSome-named c.args.self.now c.args.name.now c.map.result (node_is c)) (λ node is. is.1)
