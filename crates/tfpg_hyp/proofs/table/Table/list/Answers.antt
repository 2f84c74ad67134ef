use Rattle.std.proofs.Common.{◌+◌, ◌∙◌, ap, subst, sym, length, List}
use Rattle.tfpg_base.specs.NodeSet.{IsNodeSet}
use Rattle.tfpg_base.specs.Hypothesis.{Hypothesis}
use Rattle.tfpg_hyp.specs.Hypotheses.{AreReaches}
use Rattle.tfpg_hyp.specs.inside.Choices.{chosen_below}
use Rattle.tfpg_hyp.proofs.lemmas.MonitorNumbers.{IsNodeSet-monitors}
use Rattle.tfpg_hyp.proofs.lemmas.Tables.{IsTable-hypotheses, members_failing, few_hypotheses}
use Rattle.tfpg_hyp.proofs.table.Table.list.Goals as goal

pub list_hypotheses-requires-clause-monitors : goal.list_hypotheses-requires-clause-monitors
list_hypotheses-requires-clause-monitors c =
    subst IsNodeSet (sym (c.deref.ensures.value ∙ c.in_ok-monitors.ensures)) (IsNodeSet-monitors c.args.graph.now c.is_always_valid.ensures.few)

pub reaches_of-requires : goal.reaches_of-requires
reaches_of-requires c =
    members_failing c.args.graph.now (record { k = c.args.k; doubt = c.args.doubt; budget = 0 }) c.failure_count.result c.deref.result.now c.deref-2.result.now c.failure_count.ensures
    (c.deref.ensures.value ∙ c.in_ok-monitors.ensures) (c.deref-2.ensures.value ∙ c.in_ok-hypotheses.ensures)

pub invariant_of-result : goal.invariant_of-result
invariant_of-result c = (
  c.in_ok-reaches.ensures.complete ∙ ap length c.deref-2.ensures.value,
  few_hypotheses c.args.graph.now (record { k = c.args.k; doubt = c.args.doubt; budget = 0 }) c.failure_count.result c.deref.result.now c.in_ok-hypotheses.hypotheses.items c.failure_count.ensures
      (c.deref.ensures.value ∙ c.in_ok-monitors.ensures) c.in_ok-hypotheses.ensures c.requires.few,
)

pub returns : goal.returns
returns c terms same_k same_doubt = record {
  hypotheses = IsTable-hypotheses c.args.graph.now terms c.failure_count.result c.deref.result.now c.in_ok-hypotheses.hypotheses.items c.failure_count.ensures (c.deref.ensures.value ∙ c.in_ok-monitors.ensures)
      (c.in_ok-hypotheses.ensures ∙ (λ i. chosen_below c.deref.result.now (sym same_doubt i) c.failure_count.result (sym same_k i + 1)));
  reached = subst (λ (hypotheses : List Hypothesis). AreReaches c.args.graph.now hypotheses c.in_ok-reaches.reaches.items) c.deref-2.ensures.value c.in_ok-reaches.ensures;
}
