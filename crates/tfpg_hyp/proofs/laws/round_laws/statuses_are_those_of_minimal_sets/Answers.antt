use Rattle.tfpg_base.proofs.lemmas.lists.Elements.{slice_get-contains}
use Rattle.tfpg_hyp.proofs.lemmas.FittingSets.{ranked_of, covered_of, rejected_of}
use Rattle.tfpg_hyp.proofs.laws.round_laws.statuses_are_those_of_minimal_sets.Goals as goal

pub returns : goal.returns
returns c =
    λ graph terms line rounds log round valid of ordered is_round none_open. record {
      ranked = λ finding member.
          ranked_of c.a_refutation_leaves_no_trace.ensures graph terms line rounds log round valid of ordered is_round none_open member.0 finding (slice_get-contains round.findings finding member);
      covered = λ finding member.
          covered_of c.a_refutation_leaves_no_trace.ensures graph terms line rounds log round valid of ordered is_round none_open member.0 finding (slice_get-contains round.findings finding member);
      rejected = λ finding member.
          rejected_of c.a_refutation_leaves_no_trace.ensures graph terms line rounds log round valid of ordered is_round none_open member.0 finding (slice_get-contains round.findings finding member);
    }
