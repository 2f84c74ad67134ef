use Rattle.tfpg_search.proofs.lemmas.work.LimitsWorkedOut.{limit_at_alarm, limit_at_tick, limit_of_unreached}
use Rattle.tfpg_search.proofs.laws.work_limits_of_a_small_graph.Goals as goal

pub returns-clause-alarm : goal.returns-clause-alarm
returns-clause-alarm c = limit_at_alarm

pub returns-clause-tick : goal.returns-clause-tick
returns-clause-tick c = limit_at_tick

pub returns-clause-unreached : goal.returns-clause-unreached
returns-clause-unreached c = limit_of_unreached
