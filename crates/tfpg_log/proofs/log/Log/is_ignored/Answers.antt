use Rattle.std.proofs.Common.{ap, ◌∙◌}
use Rattle.std.proofs.lemmas.Bool.Decides.{same_from_decides}
use Rattle.std.specs.Prelude.{Contains}
use Rattle.tfpg_graph.proofs.lemmas.reach.Reaches.{among-from_Contains, Contains-from_among}
use Rattle.tfpg_graph.specs.Reach.{is_among}
use Rattle.tfpg_log.specs.Log.{Logbook, is_ignored}
use Rattle.tfpg_log.proofs.log.Log.is_ignored.Goals as goal

pub returns : goal.returns
returns c =
    let nodes = c.self.inside.ignored in
    same_from_decides {P = Contains nodes c.args.node} c.has.result (is_among nodes c.args.node) c.has.ensures.member
    (Contains-from_among nodes c.args.node, among-from_Contains nodes c.args.node)
    ∙ ap (λ (log : Logbook). is_ignored log c.args.node) c.self.view_is
