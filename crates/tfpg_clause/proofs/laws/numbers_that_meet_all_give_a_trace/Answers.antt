use Rattle.std.proofs.Common.{length}
use Rattle.tfpg_log.specs.Log.{now_of}
use Rattle.tfpg_clause.specs.Cut.{cut}
use Rattle.tfpg_clause.proofs.lemmas.traces.TraceAgrees.{of_cut}
use Rattle.tfpg_clause.proofs.lemmas.rules.RulesMet.{clause_is_met, rules_are_kept}
use Rattle.tfpg_clause.proofs.lemmas.traces.FactsMet.{events_are_shown}
use Rattle.tfpg_clause.proofs.lemmas.traces.GivesTrace.{rising, within, early}
use Rattle.tfpg_clause.proofs.lemmas.traces.OnlyMembers.{only_members}
use Rattle.tfpg_clause.proofs.laws.numbers_that_meet_all_give_a_trace.Goals as goal

pub returns : goal.returns
returns c = record {
  rules = λ graph log numbers valid are.
      let agree = of_cut (length graph.nodes) (now_of log) numbers are.one_each in (
        λ rules name clause at_now allowed. clause_is_met graph log
            (cut (now_of log) numbers) numbers valid agree rules name clause allowed,
        λ met. rules_are_kept graph log (cut (now_of log) numbers) numbers valid agree met,
      );
  shown = λ graph log set reach numbers of ordered is_reach are met.
      events_are_shown graph log set reach is_reach of ordered (cut (now_of log) numbers) numbers
      (of_cut (length graph.nodes) (now_of log) numbers are.one_each) met;
  from_set = λ graph log set reach numbers of ordered is_reach are met.
      only_members graph log set reach is_reach of ordered numbers are met;
  explains = λ graph log set reach numbers valid of ordered is_reach are met_facts met_clauses.
      let trace = cut (now_of log) numbers in
      let agree = of_cut (length graph.nodes) (now_of log) numbers are.one_each in
      record {
        trace_of = (rising (now_of log) numbers, within graph (now_of log) numbers are.one_each);
        by_now = early (now_of log) numbers;
        from_set = only_members graph log set reach is_reach of ordered numbers are met_facts;
        rules = rules_are_kept graph log trace numbers valid agree met_clauses;
        shows = events_are_shown graph log set reach is_reach of ordered trace numbers agree met_facts;
      };
}
