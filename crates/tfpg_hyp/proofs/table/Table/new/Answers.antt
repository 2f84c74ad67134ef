use Rattle.std.proofs.Common.{Ok, arith}
use Rattle.std.proofs.lemmas.Result.{err_from_is_err_and}
use Rattle.tfpg_hyp.proofs.lemmas.MonitorNumbers.{few_monitors}
use Rattle.tfpg_hyp.proofs.lemmas.Tables.{HasHypotheses-counted, too_many-exactly, not_too_many}
use Rattle.tfpg_hyp.proofs.table.Table.new.Goals as goal

pub returns-then-count-from-clause-too_many : goal.returns-then-count-from-clause-too_many
returns-then-count-from-clause-too_many c terms same_k same_doubt =
    let has = HasHypotheses-counted c.args.graph.now terms c.args.k c.args.doubt same_k same_doubt c.failure_count.result c.monitor_count.result c.count_hypotheses-count.result c.failure_count.ensures c.monitor_count.ensures c.count_hypotheses-count.ensures in
    too_many-exactly c.args.graph.now terms c.count_hypotheses-count.result has (omega (arith, c.from.ensures, c.if-count-from.true))

pub returns-in_err-table-clause-too_many : goal.returns-in_err-table-clause-too_many
returns-in_err-table-clause-too_many c terms same_k same_doubt =
    let has = HasHypotheses-counted c.args.graph.now terms c.args.k c.args.doubt same_k same_doubt c.failure_count.result c.monitor_count.result c.count_hypotheses-count.result c.failure_count.ensures c.monitor_count.ensures c.count_hypotheses-count.ensures in
    let failed = err_from_is_err_and c.from_residual.result c.from_residual.ensures.1 in
    not_too_many c.args.graph.now terms c.count_hypotheses-count.result has c.from_residual.result (omega (arith, c.from.ensures, c.if-count-from.false)) (λ count same. cc)

pub returns-clause-too_many : goal.returns-clause-too_many
returns-clause-too_many c terms same_k same_doubt =
    let has = HasHypotheses-counted c.args.graph.now terms c.args.k c.args.doubt same_k same_doubt c.failure_count.result c.monitor_count.result c.count_hypotheses-count.result c.failure_count.ensures c.monitor_count.ensures c.count_hypotheses-count.ensures in
    not_too_many c.args.graph.now terms c.count_hypotheses-count.result has (Ok c.in_ok-table.table) (omega (arith, c.from.ensures, c.if-count-from.false)) (λ count same. cc)

pub count_hypotheses-count-requires-clause-few_monitors : goal.count_hypotheses-count-requires-clause-few_monitors
count_hypotheses-count-requires-clause-few_monitors c = few_monitors c.args.graph.now c.monitor_count.result c.monitor_count.ensures c.is_always_valid.ensures.few
