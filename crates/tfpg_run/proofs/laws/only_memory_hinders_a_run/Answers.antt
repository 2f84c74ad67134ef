use Rattle.tfpg_run.proofs.lemmas.Completing.{run_completes, run_refuses}
use Rattle.tfpg_run.proofs.laws.only_memory_hinders_a_run.Goals as goal

pub returns-clause-completes : goal.returns-clause-completes
returns-clause-completes c = λ meant before now end ends can calm.
    run_completes (record { text = c.a_text_has_at_most_one_first_fault.ensures.none; json = c.a_text_has_at_most_one_first_fault_as_json.ensures.none })
    (record {
      no_cause = c.lines_have_at_most_one_cause.ensures.none;
      one_cause = c.lines_have_at_most_one_cause.ensures.one;
      too_many = c.lines_have_at_most_one_cause.ensures.too_many;
      one_line = c.a_report_line_says_one_thing.ensures;
    }) before now calm meant end ends can

pub returns-clause-refuses : goal.returns-clause-refuses
returns-clause-refuses c = λ graph log line cause before now end ends can calm.
    run_refuses (record { text = c.a_text_has_at_most_one_first_fault.ensures.none; json = c.a_text_has_at_most_one_first_fault_as_json.ensures.none })
    (record {
      no_cause = c.lines_have_at_most_one_cause.ensures.none;
      one_cause = c.lines_have_at_most_one_cause.ensures.one;
      too_many = c.lines_have_at_most_one_cause.ensures.too_many;
      one_line = c.a_report_line_says_one_thing.ensures;
    }) before now calm graph log line cause end ends can
