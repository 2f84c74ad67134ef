use Rattle.tfpg_base.specs.Lines.{lines_of}
use Rattle.tfpg_diagnose.proofs.lemmas.NeverRejected.{not_rejected}
use Rattle.tfpg_run.proofs.laws.a_simulated_set_is_rejected_in_no_round.Goals as goal

pub returns : goal.returns
returns c = λ graph script draw simulated terms blocks valid is are index round losses at finding member on_set.
    not_rejected graph terms (lines_of simulated.log) blocks are index round losses at c.a_refutation_leaves_no_trace.ensures valid simulated.set
    (simulated.trace, c.a_simulated_log_is_accepted_and_explained.ensures.explained graph script draw simulated valid is) finding member on_set
