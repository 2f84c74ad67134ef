use Rattle.std.proofs.Common.{refl, sym, subst}
use Rattle.std.proofs.lemmas.Result.{err_from_is_err_and}
use Rattle.tfpg_check.specs.inside.InTurn.{IsFaultOf}
use Rattle.tfpg_check.specs.inside.Kept.{RestFails}
use Rattle.tfpg_check.specs.declared.round_fault.RoundFault.{RoundFault}
use Rattle.tfpg_check.proofs.lemmas.judging.NothingAdded.{unchanged_lookup}
use Rattle.tfpg_check.proofs.kept_hypotheses.judge_unchanged.Goals as goal

pub returns-in_err-judge_rest-clause-rest : goal.returns-in_err-judge_rest-clause-rest
returns-in_err-judge_rest-clause-rest c = λ basis state same_graph same_log keeps same_table same_budget kept before.
    let p = err_from_is_err_and c.from_residual.result c.from_residual.ensures.1 in
    rw p.1
    (subst (λ (fault : RoundFault). IsFaultOf (RestFails basis c.args.read.now) fault) (sym p.2)
    (c.in_err-judge_rest.ensures.rest basis
    (unchanged_lookup basis _ state c.args.flags.now same_graph keeps same_table same_budget kept before c.requires.nothing
    (record {
      was_closed = c.deref.ensures.value;
      closed = c.deref-2.ensures.value;
      counted = refl;
      ranked = c.deref-3.ensures.value;
      part_ranked = c.deref-4.ensures.value;
      all_flagged = refl;
      unsettled = refl;
      parts = refl;
    })) same_log))

pub returns-clause-rest : goal.returns-clause-rest
returns-clause-rest c = λ basis state same_graph same_log keeps same_table same_budget kept before.
    c.in_ok-judge_rest.ensures.rest basis
    (unchanged_lookup basis _ state c.args.flags.now same_graph keeps same_table same_budget kept before c.requires.nothing
    (record {
      was_closed = c.deref.ensures.value;
      closed = c.deref-2.ensures.value;
      counted = refl;
      ranked = c.deref-3.ensures.value;
      part_ranked = c.deref-4.ensures.value;
      all_flagged = refl;
      unsettled = refl;
      parts = refl;
    })) same_log
