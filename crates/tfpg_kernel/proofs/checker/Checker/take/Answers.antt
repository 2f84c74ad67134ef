use Rattle.tfpg_clause.specs.Paths.{with_step}
use Rattle.tfpg_kernel.proofs.checker.Checker.take.Goals as goal

pub returns-clause-closed : goal.returns-clause-closed
returns-clause-closed c = λ earlier steps goes_on represents. (c.take_step.ensures.result earlier steps goes_on represents).closed

pub returns-clause-partial : goal.returns-clause-partial
returns-clause-partial c = λ earlier steps goes_on represents. (c.take_step.ensures.result earlier steps goes_on represents).partial

pub returns-clause-bad : goal.returns-clause-bad
returns-clause-bad c = λ earlier steps goes_on represents. (c.take_step.ensures.result earlier steps goes_on represents).bad

pub returns-clause-represents : goal.returns-clause-represents
returns-clause-represents c = λ earlier steps goes_on represents. (c.take_step.ensures.result earlier steps goes_on represents).represents

pub returns-clause-no_trace : goal.returns-clause-no_trace
returns-clause-no_trace c = λ earlier later steps set goes_on represents closed is_reach later_on of ordered.
    c.a_refutation_leaves_no_trace.ensures c.args.graph.now c.args.log.now later set c.args.self.now.reach (with_step steps c.args.log.now c.args.step.now) c.is_always_valid.ensures.valid of
    ordered is_reach later_on ((c.take_step.ensures.result earlier steps goes_on represents).closed.0 closed)
