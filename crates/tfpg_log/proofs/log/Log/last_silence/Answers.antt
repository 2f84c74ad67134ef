use Rattle.std.proofs.Common.{subst, sym}
use Rattle.tfpg_log.specs.inside.NodeEvents.{IsLast, IsSilence}
use Rattle.tfpg_log.proofs.lemmas.events.LastQuiets.{last_silence_is}
use Rattle.tfpg_log.proofs.log.Log.last_silence.Goals as goal

pub returns : goal.returns
returns c =
    subst (IsLast (IsSilence c.args.graph.now c.args.self.now c.args.node)) (sym c.later_of.ensures)
    (last_silence_is c.args.graph.now c.args.self.now c.args.node c.node_events.result.silence c.last_swept.result c.node_events.ensures.silence c.last_swept.ensures)
