use Rattle.tfpg_words.specs.Meaning.{Check}
use Rattle.tfpg_run.proofs.lemmas.Completing.{run_completes}
use Rattle.tfpg_run.proofs.lemmas.check.AcceptedDiagnoses.{can_check}
use Rattle.tfpg_run.proofs.laws.what_diagnose_wrote_is_accepted.Goals as goal

pub returns-clause-can_be_done : goal.returns-clause-can_be_done
returns-clause-can_be_done c = can_check

pub returns-clause-accepted : goal.returns-clause-accepted
returns-clause-accepted c = λ terms diagnosed graph log before now later after end ends follows checks calm.
    run_completes (record { text = c.a_text_has_at_most_one_first_fault.ensures.none; json = c.a_text_has_at_most_one_first_fault_as_json.ensures.none })
    (record {
      no_cause = c.lines_have_at_most_one_cause.ensures.none;
      one_cause = c.lines_have_at_most_one_cause.ensures.one;
      too_many = c.lines_have_at_most_one_cause.ensures.too_many;
      one_line = c.a_report_line_says_one_thing.ensures;
    }) later after calm (Check graph log) end checks
    (can_check terms diagnosed graph log before now later ends follows)
