use Rattle.std.proofs.Common.{ℕ, List, Bool, Option, None, length, map, get_or, eqb, sym, ap, subst, arith, ◌∙◌}
use Rattle.std.specs.List.{list_any}
use Rattle.std.specs.Prelude.{count_by}
use Rattle.std.proofs.lemmas.Bool.{false≢true}
use Rattle.std.proofs.lemmas.Result.{err_from_is_err_and}
use Rattle.tfpg_kernel.specs.CheckerState.{CheckerState}
use Rattle.tfpg_report.specs.declared.read_round.Part.{Part}
use Rattle.tfpg_report.specs.declared.read_round.RankedLine.{RankedLine}
use Rattle.tfpg_report.specs.declared.read_round.NamedSet.{NamedSet}
use Rattle.tfpg_check.specs.HypothesesState.{HypothesesState}
use Rattle.tfpg_check.specs.inside.AfterRound.{after_round}
use Rattle.tfpg_check.specs.inside.Lookups.{flag_at, part_index}
use Rattle.tfpg_check.specs.inside.InTurn.{IsFaultOf}
use Rattle.tfpg_check.specs.inside.Kept.{RestFails}
use Rattle.tfpg_check.specs.inside.LargestParts.{SayFlaggedParts}
use Rattle.tfpg_hyp.specs.Hypotheses.{IsTableOf}
use Rattle.tfpg_check.specs.declared.round_fault.RoundFault.{RoundFault}
use Rattle.tfpg_check.proofs.lemmas.judging.Lookups.{lookup_is, said_of_ranked, parts_before}
use Rattle.tfpg_check.proofs.lemmas.judging.NothingAdded.{flags_kept, same_flagged}
use Rattle.tfpg_check.proofs.kept_hypotheses.KeptHypotheses.judge_statuses.Goals as goal

pub returns-in_err-judge_rest-clause-rest : goal.returns-in_err-judge_rest-clause-rest
returns-in_err-judge_rest-clause-rest c = λ basis same_graph same_log keeps flags.
    let p = err_from_is_err_and c.from_residual-in_err-judge_rest.result c.from_residual-in_err-judge_rest.ensures.1 in
    rw p.1
    (subst (λ (fault : RoundFault). IsFaultOf (RestFails basis c.args.read.now) fault) (sym p.2)
    (c.in_err-judge_rest.ensures.rest basis
    (lookup_is basis _ c.args.self.now c.len-count.result same_graph keeps (sym (ap (λ (s : HypothesesState). s.table) c.self.view_is)) (sym (ap (λ (s : HypothesesState). s.terms.budget) c.self.view_is))
    c.len-count.ensures.count flags
    (record {
      closed = c.deref-4.ensures.value ∙ c.in_ok-closed.ensures ∙ ap (map (λ (checker : CheckerState). checker.closed)) (c.deref.ensures.value ∙ ap (λ (s : HypothesesState). s.checkers) c.self.view_is);
      ranked = λ number within. ap (λ (flags : List Bool). flag_at flags number) c.deref-5.ensures.value ∙ c.in_ok-ranked.ensures number within
          ∙ ap (list_any (λ (r : RankedLine). eqb r.number number)) c.as_slice.ensures;
      part_ranked = said_of_ranked c.subsets_stand_before_their_supersets.ensures.before (after_round basis c.args.read.now) basis.log c.args.self.now keeps c.self.inside.table
          (sym (ap (λ (s : HypothesesState). s.table) c.self.view_is)) c.deref-3.result.now c.in_ok-part_ranked.part_ranked.items
          (c.in_ok-part_ranked.ensures c.self.inside.table.hypotheses c.self.invariant.1) c.deref-5.result.now c.deref-6.result.now (c.deref-3.ensures.value ∙ sym c.deref-5.ensures.value) c.deref-6.ensures.value;
      unsettled = λ number within. ap (λ (flags : List Bool). flag_at flags number) c.deref-7.ensures.value ∙ c.in_ok-unsettled.ensures number within
          ∙ ap (list_any (λ (named : NamedSet). eqb named.number number)) c.as_slice-2.ensures;
      parts = λ number within. ap (λ (indexes : List (Option ℕ)). get_or indexes number None) c.deref-8.ensures.value ∙ c.in_ok-parts.ensures number within
          ∙ ap (λ (parts : List Part). part_index parts number) c.as_slice-3.ensures;
      counted = c.count_raised-closed_count.ensures ∙ ap (count_by (λ (closed : Bool). closed)) (c.deref-2.ensures.value ∙ sym c.deref-4.ensures.value);
      all_flagged = λ up. absurd (false≢true up);
    })) same_log))

pub returns-clause-rest : goal.returns-clause-rest
returns-clause-rest c = λ basis same_graph same_log keeps flags.
    c.in_ok-judge_rest.ensures.rest basis
    (lookup_is basis _ c.args.self.now c.len-count.result same_graph keeps (sym (ap (λ (s : HypothesesState). s.table) c.self.view_is)) (sym (ap (λ (s : HypothesesState). s.terms.budget) c.self.view_is))
    c.len-count.ensures.count flags
    (record {
      closed = c.deref-4.ensures.value ∙ c.in_ok-closed.ensures ∙ ap (map (λ (checker : CheckerState). checker.closed)) (c.deref.ensures.value ∙ ap (λ (s : HypothesesState). s.checkers) c.self.view_is);
      ranked = λ number within. ap (λ (flags : List Bool). flag_at flags number) c.deref-5.ensures.value ∙ c.in_ok-ranked.ensures number within
          ∙ ap (list_any (λ (r : RankedLine). eqb r.number number)) c.as_slice.ensures;
      part_ranked = said_of_ranked c.subsets_stand_before_their_supersets.ensures.before (after_round basis c.args.read.now) basis.log c.args.self.now keeps c.self.inside.table
          (sym (ap (λ (s : HypothesesState). s.table) c.self.view_is)) c.deref-3.result.now c.in_ok-part_ranked.part_ranked.items
          (c.in_ok-part_ranked.ensures c.self.inside.table.hypotheses c.self.invariant.1) c.deref-5.result.now c.deref-6.result.now (c.deref-3.ensures.value ∙ sym c.deref-5.ensures.value) c.deref-6.ensures.value;
      unsettled = λ number within. ap (λ (flags : List Bool). flag_at flags number) c.deref-7.ensures.value ∙ c.in_ok-unsettled.ensures number within
          ∙ ap (list_any (λ (named : NamedSet). eqb named.number number)) c.as_slice-2.ensures;
      parts = λ number within. ap (λ (indexes : List (Option ℕ)). get_or indexes number None) c.deref-8.ensures.value ∙ c.in_ok-parts.ensures number within
          ∙ ap (λ (parts : List Part). part_index parts number) c.as_slice-3.ensures;
      counted = c.count_raised-closed_count.ensures ∙ ap (count_by (λ (closed : Bool). closed)) (c.deref-2.ensures.value ∙ sym c.deref-4.ensures.value);
      all_flagged = λ up. absurd (false≢true up);
    })) same_log

pub returns-clause-kept : goal.returns-clause-kept
returns-clause-kept c =
    let hypotheses = c.self.inside.table.hypotheses in
    let table = (subst (λ (s : HypothesesState). IsTableOf c.args.graph.now s.terms s.table) (sym c.self.view_is) c.requires.table).hypotheses in
    flags_kept c.args.self.now _ hypotheses c.self.inside.checkers.items c.args.read.now.ranked (ap (λ (s : HypothesesState). s.table.hypotheses) c.self.view_is)
    (ap (λ (s : HypothesesState). s.checkers) c.self.view_is)
    (c.in_ok-closed.ensures ∙ ap (map (λ (checker : CheckerState). checker.closed)) c.deref.ensures.value)
    (c.count_raised-closed_count.ensures ∙ ap (count_by (λ (closed : Bool). closed)) c.deref-2.ensures.value)
    (λ number within. c.in_ok-ranked.ensures number (omega (arith, within, c.len-count.ensures.count)) ∙ ap (list_any (λ (r : RankedLine). eqb r.number number)) c.as_slice.ensures)
    (c.in_ok-numbers.ensures ∙ ap (map (λ (r : RankedLine). r.number)) c.as_slice-4.ensures)
    (subst (λ (fs : List Bool). SayFlaggedParts hypotheses fs (length hypotheses) c.in_ok-part_ranked.part_ranked.items) c.deref-3.ensures.value
    (c.in_ok-part_ranked.ensures hypotheses c.self.invariant.1 (parts_before c.subsets_stand_before_their_supersets.ensures.before c.args.graph.now c.self.inside.terms hypotheses table)))
    (λ up number within. same_flagged number c.in_ok-closed.closed.items c.in_ok-ranked.ranked.items c.in_ok-part_ranked.part_ranked.items c.deref-9.result.now c.deref-10.result.now c.deref-11.result.now
    (sym c.deref-9.ensures.value) (sym c.deref-10.ensures.value) (sym c.deref-11.ensures.value)
    (c.are_all_flagged-all_flagged.ensures up number (omega (arith, within, c.len-count.ensures.count))))
