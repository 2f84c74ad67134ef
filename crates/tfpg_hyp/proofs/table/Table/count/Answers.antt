use Rattle.tfpg_hyp.proofs.lemmas.MonitorNumbers.{few_monitors}
use Rattle.tfpg_hyp.proofs.lemmas.Tables.{HasHypotheses-counted}
use Rattle.tfpg_hyp.proofs.table.Table.count.Goals as goal

pub count_hypotheses-requires-clause-few_monitors : goal.count_hypotheses-requires-clause-few_monitors
count_hypotheses-requires-clause-few_monitors c = few_monitors c.args.graph.now c.monitor_count.result c.monitor_count.ensures c.is_always_valid.ensures.few

pub returns : goal.returns
returns c terms same_k same_doubt =
    HasHypotheses-counted c.args.graph.now terms c.args.k c.args.doubt same_k same_doubt c.failure_count.result c.monitor_count.result c.count_hypotheses.result c.failure_count.ensures c.monitor_count.ensures
    c.count_hypotheses.ensures
