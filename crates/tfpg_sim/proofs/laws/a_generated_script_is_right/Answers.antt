use Rattle.tfpg_sim.proofs.lemmas.drawn.GeneratedGraphs.{generated_failures}
use Rattle.tfpg_sim.proofs.lemmas.drawn.GeneratedScripts.{never_at_fault, generated_set, generated_log}
use Rattle.tfpg_sim.proofs.laws.a_generated_script_is_right.Goals as goal

pub returns-clause-failures : goal.returns-clause-failures
returns-clause-failures c = λ number size. generated_failures number size

pub returns-clause-right : goal.returns-clause-right
returns-clause-right c = λ number size line some few fault. never_at_fault number size line some few fault

pub returns-clause-set : goal.returns-clause-set
returns-clause-set c = λ number size draw simulated some few is. generated_set number size draw simulated some few is

pub returns-clause-log : goal.returns-clause-log
returns-clause-log c = λ number size draw simulated some few is. generated_log number size draw simulated some few is
