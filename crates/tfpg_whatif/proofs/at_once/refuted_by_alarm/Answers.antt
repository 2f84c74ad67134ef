use Rattle.tfpg_whatif.proofs.lemmas.AtOnce.{refutes}
use Rattle.tfpg_whatif.proofs.at_once.refuted_by_alarm.Goals as goal

pub returns : goal.returns
returns c = λ earlier set budget is.
    refutes c.args.graph.now c.args.log.now earlier c.args.reach.now c.args.event c.in-Alarm.time c.in-Alarm.node c.in-Some.latest c.len.result c.requires is c.in-Alarm.is
    c.in-Some.ensures c.len.ensures.len set budget c.in_ok-steps.steps c.in_ok-steps.ensures
