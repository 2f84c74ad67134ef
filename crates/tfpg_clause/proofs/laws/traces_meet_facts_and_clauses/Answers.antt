use Rattle.tfpg_log.specs.Log.{now_of}
use Rattle.tfpg_graph.proofs.lemmas.zero_cycle.ZeroRanks.{HasZeroOrder-valid}
use Rattle.tfpg_clause.proofs.lemmas.traces.TraceAgrees.{of_trace}
use Rattle.tfpg_clause.proofs.lemmas.rules.RulesMet.{clause_is_met}
use Rattle.tfpg_clause.proofs.lemmas.traces.FactsMet.{fact_is_met}
use Rattle.tfpg_clause.proofs.laws.traces_meet_facts_and_clauses.Goals as goal

pub returns : goal.returns
returns c = record {
  facts = λ graph log set reach trace numbers valid of ordered is_reach explains are.
      fact_is_met graph log set reach is_reach of ordered trace numbers (HasZeroOrder-valid graph valid) explains are;
  clauses = λ graph log set trace numbers valid explains are.
      clause_is_met graph log trace numbers valid (of_trace graph (now_of log) trace numbers explains.by_now are) explains.rules;
}
