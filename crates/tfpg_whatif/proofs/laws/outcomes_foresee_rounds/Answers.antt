use Rattle.tfpg_whatif.proofs.lemmas.Rounds.{foresee}
use Rattle.tfpg_whatif.proofs.laws.outcomes_foresee_rounds.Goals as goal

pub returns : goal.returns
returns c = λ asked outcomes well are. foresee c.a_refutation_leaves_no_trace.ensures c.rounds_say_which_sets_fit.ensures c.the_table_is_one.ensures.hypotheses asked well outcomes are
