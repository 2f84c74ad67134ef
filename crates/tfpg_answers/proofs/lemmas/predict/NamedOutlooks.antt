-- An outlook names only what the graph and the probed graph have.
use Rattle.std.proofs.Common.{◌≡◌, ℕ, ◌-◌, ◌≤◌, List, [], length, ⊎_elim, sym, ap, subst, ◌∙◌, arith}
use Rattle.std.specs.Prelude.{All}
use Rattle.std.proofs.lemmas.Bool.{cases_lt}
use Rattle.std.proofs.lemmas.List.{length_push}
use Rattle.std.proofs.lemmas.List.Elements.{All-nil}
use Rattle.tfpg_base.proofs.lemmas.lists.Images.{All-unmap}
use Rattle.tfpg_graph.specs.declared.kind.Lag.{Lag}
use Rattle.tfpg_graph.specs.Graph.{Tfpg, Sizes, sizes_of}
use Rattle.tfpg_graph.specs.Probe.{with_probe, probe_node}
use Rattle.tfpg_graph.specs.Valid.{IsValid}
use Rattle.tfpg_log.specs.Log.{IsLogOf, IsOrdered, ignoring}
use Rattle.tfpg_evidence.specs.declared.finding.Finding.{Finding}
use Rattle.tfpg_evidence.specs.declared.step.Step.{Step}
use Rattle.tfpg_evidence.specs.RoundOf.{IsStepOf}
use Rattle.tfpg_clause.specs.Case.{Case}
use Rattle.tfpg_clause.specs.Paths.{judged_by, with_steps}
use Rattle.tfpg_clause.specs.Trees.{Judged}
use Rattle.tfpg_clause.proofs.lemmas.trees.NamedSteps.{AreStepsOfGraph, partial_named, refutation_named}
use Rattle.tfpg_predict.specs.declared.outlook.Outlook.{Outlook}
use Rattle.tfpg_predict.specs.declared.outlook.Outlook.TheVariants.{Earliest, Never, Unsettled}
use Rattle.tfpg_predict.specs.LeastTime.{Lookahead, lookahead_of}
use Rattle.tfpg_predict.specs.Outlooks.{IsOutlook, IsProbeCase, IsRefutedAt, IsSpentAt}
use Rattle.tfpg_predict.specs.Probed.{IsProbeable, probe_lag, probe_word}
use Rattle.tfpg_predict.proofs.lemmas.AsProbed.{able_ignoring, by_its_end, of_probed}
use Rattle.tfpg_predict.proofs.lemmas.explained.ProbeParts.{failures_same}
use Rattle.tfpg_answers.specs.declared.predict.query.Query.{Query}
use Rattle.tfpg_answers.specs.inside.Forecasting.{IsAskable, IsOutlookOf, IsQuery}
use Rattle.tfpg_answers.specs.Forecasts.{probed_names}

-- ---- the steps of a search

-- The steps of one search name only what the graph has, where they do so as judged steps.
searched_named : (case : Case) (steps : List Step) → AreStepsOfGraph case.graph (with_steps [] case.log steps) → All (IsStepOf (sizes_of case.graph)) steps
searched_named case steps named = All-unmap (λ (judged : Judged). IsStepOf (sizes_of case.graph) judged.step) (judged_by case.log) steps named

-- all probes of a node give the graph the same sizes
same_sizes : (graph : Tfpg) (name other : List ℕ) (node : ℕ) (lag late : Lag) → sizes_of (with_probe graph name node lag) ≡ sizes_of (with_probe graph other node late)
same_sizes graph name other node lag late = λ i. record {
  nodes = (length_push graph.nodes (probe_node name lag) ∙ sym (length_push graph.nodes (probe_node other late))) i;
  edges = length (with_probe graph name node lag).edges;
  failures = ap length (failures_same graph name node lag ∙ sym (failures_same graph other node late)) i;
}

-- ---- outlooks

module _ (asked : Lookahead) (set : List ℕ) (valid : IsValid asked.graph) (able : IsProbeable asked) (ordered : IsOrdered asked.log) (number : ℕ) where
  -- the sizes of the probed graph
  abbrev Probed : Sizes
  Probed = sizes_of (probed_names asked number)

  module _ (bound : ℕ) (upto : bound ≤ asked.to) where
    case_sizes : (case : Case) → IsProbeCase asked set bound case → sizes_of case.graph ≡ Probed
    case_sizes case probe =
        ap sizes_of probe.probed.graph_is
        ∙ same_sizes asked.graph (probe_word probe.probed.number) (probe_word number) asked.node (probe_lag asked.to bound) (probe_lag asked.to asked.to)

    case_log : (case : Case) → IsProbeCase asked set bound case → IsLogOf case.graph case.log
    case_log case probe = of_probed asked bound valid able ordered upto case.graph case.log probe.probed

    named_when_refuted : (budget : ℕ) (steps : List Step) → IsRefutedAt asked set bound budget steps → All (IsStepOf Probed) steps
    named_when_refuted budget steps is =
        let of = case_log is.case is.probe in
        subst (λ (sizes : Sizes). All (IsStepOf sizes) steps) (case_sizes is.case is.probe)
        (searched_named is.case steps (refutation_named is.case of (with_steps [] is.case.log steps) is.refutation))

    named_when_spent : (budget : ℕ) (steps : List Step) → IsSpentAt asked set bound budget steps → All (IsStepOf Probed) steps
    named_when_spent budget steps is =
        let of = case_log is.case is.probe in
        subst (λ (sizes : Sizes). All (IsStepOf sizes) steps) (case_sizes is.case is.probe)
        (searched_named is.case steps (partial_named is.case of (with_steps [] is.case.log steps) is.unsettled.1.leaf.partial))

  pub outlook_named : (budget : ℕ) (outlook : Outlook) → IsOutlook asked set budget outlook → IsOutlookOf (sizes_of asked.graph) Probed outlook
  outlook_named budget (Earliest time trace earlier) is =
      let by_end : time ≤ asked.to = by_its_end asked set trace asked.node time is.least.explains is.least.attained in (
        is.least.explains.trace_of.1,
        ⊎_elim
            (λ later. named_when_refuted (time - 1) (omega (arith, by_end)) budget earlier (is.refuted later))
            (λ zero. subst (All (IsStepOf Probed)) (sym (is.at_zero (omega (arith, zero)))) (All-nil (IsStepOf Probed)))
            (cases_lt 0 time),
      )
  outlook_named budget (Never steps) is = named_when_refuted asked.to (omega arith) budget steps is.refuted
  outlook_named budget (Unsettled bound steps) is = named_when_spent bound is.within budget steps is.spent

-- so does one that answers what the code asks of a finding
pub named_in_query : (query : Query) (is : IsQuery query) (finding : Finding) → IsAskable query.graph.now finding → (outlook : Outlook)
    → IsOutlook (lookahead_of query.graph.now (ignoring query.log.now finding.doubts) query.node query.to) finding.set query.budget outlook
    → IsOutlookOf (sizes_of query.graph.now) (sizes_of query.probed.now) outlook
named_in_query query is finding askable outlook right =
    subst (λ (probed : Tfpg). IsOutlookOf (sizes_of query.graph.now) (sizes_of probed) outlook) (sym is.probed_is)
    (outlook_named (lookahead_of query.graph.now (ignoring query.log.now finding.doubts) query.node query.to) finding.set is.valid
    (able_ignoring query.graph.now query.log.now query.node query.to finding.doubts is.probeable askable.doubts)
    (record { in_order = is.ordered.in_order; in_range = is.ordered.in_range }) is.number query.budget outlook right)
