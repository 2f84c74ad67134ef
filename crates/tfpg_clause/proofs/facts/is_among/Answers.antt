use Rattle.std.proofs.lemmas.Bool.Decides.{same_from_decides}
use Rattle.std.specs.Prelude.{Contains}
use Rattle.tfpg_graph.proofs.lemmas.reach.Reaches.{among-from_Contains, Contains-from_among}
use Rattle.tfpg_graph.specs.Reach.{is_among}
use Rattle.tfpg_clause.proofs.facts.is_among.Goals as goal

pub returns : goal.returns
returns c =
    let nodes = c.args.nodes.now in
    same_from_decides {P = Contains nodes c.args.node} c.has.result (is_among nodes c.args.node) c.has.ensures.node
    (Contains-from_among nodes c.args.node, among-from_Contains nodes c.args.node)
