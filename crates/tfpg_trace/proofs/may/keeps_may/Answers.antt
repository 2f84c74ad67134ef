use Rattle.tfpg_trace.proofs.lemmas.MayRule.{may_of_and}
use Rattle.tfpg_trace.proofs.may.keeps_may.Goals as goal

pub returns-in-And : goal.returns-in-And
returns-in-And c =
    may_of_and c.args.graph.now c.args.log.now c.args.trace.now c.args.node c.args.time c.all_arrive.result c.requires.at c.in-And.lag c.in-And.ensures c.all_arrive.ensures
