use Rattle.tfpg_base.proofs.lemmas.lists.Elements.{slice_get-contains}
use Rattle.tfpg_hyp.proofs.lemmas.FittingSets.{rejected_exactly, no_fitting_part}
use Rattle.tfpg_hyp.proofs.laws.round_laws.rounds_say_which_sets_fit.Goals as goal

pub returns : goal.returns
returns c =
    λ graph terms line rounds log round valid of ordered is_round. record {
      rejected = λ finding member not_open.
          rejected_exactly c.a_refutation_leaves_no_trace.ensures graph terms line rounds log round valid of ordered is_round member.0 finding (slice_get-contains round.findings finding member) not_open;
      minimal = λ finding member ranked none_open part.
          no_fitting_part c.a_refutation_leaves_no_trace.ensures graph terms line rounds log round valid of ordered is_round member.0 finding (slice_get-contains round.findings finding member) ranked none_open part;
    }
