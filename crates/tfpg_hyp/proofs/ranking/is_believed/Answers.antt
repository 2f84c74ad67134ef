use Rattle.std.proofs.Common.{◌≡◌, ◌&&◌, true, not, sym, ◌∙◌}
use Rattle.std.proofs.lemmas.Bool.Decides.{same_from_decides}
use Rattle.std.specs.Prelude.{Contains}
use Rattle.tfpg_graph.proofs.lemmas.reach.Reaches.{among-from_Contains, Contains-from_among}
use Rattle.tfpg_graph.specs.Graph.{is_monitored}
use Rattle.tfpg_graph.specs.Reach.{is_among}
use Rattle.tfpg_hyp.proofs.ranking.is_believed.Goals as goal

pub returns-then-is_monitored : goal.returns-then-is_monitored
returns-then-is_monitored c =
    let shown : is_monitored c.args.graph.now c.args.node ≡ true = sym c.is_monitored.ensures ∙ c.if-is_monitored.true in
    let among = same_from_decides {P = Contains c.args.doubts c.args.node} c.has.result (is_among c.args.doubts c.args.node) c.has.ensures.member
    (Contains-from_among c.args.doubts c.args.node, among-from_Contains c.args.doubts c.args.node) in
    λ i. sym shown i && not (among i)
