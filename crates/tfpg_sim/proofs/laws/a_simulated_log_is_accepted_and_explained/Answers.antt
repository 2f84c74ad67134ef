use Rattle.tfpg_sim.proofs.lemmas.logged.ExplainedLogs.{accepted, events_are, explained}
use Rattle.tfpg_sim.proofs.laws.a_simulated_log_is_accepted_and_explained.Goals as goal

pub returns-clause-accepted : goal.returns-clause-accepted
returns-clause-accepted c = λ graph script number simulated valid is. accepted graph script number simulated valid is

pub returns-clause-explained : goal.returns-clause-explained
returns-clause-explained c = λ graph script number simulated valid is. explained graph script number simulated valid is

pub returns-clause-events : goal.returns-clause-events
returns-clause-events c = λ graph script number simulated valid is. events_are graph script number simulated valid is
