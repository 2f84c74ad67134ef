use Rattle.std.proofs.Common.{List, sym, subst, subst₂, arith}
use Rattle.std.specs.Prelude.{All}
use Rattle.tfpg_graph.specs.Graph.{Tfpg}
use Rattle.tfpg_log.specs.Log.{Logbook}
use Rattle.tfpg_evidence.specs.declared.finding.Finding.{Finding}
use Rattle.tfpg_evidence.specs.Findings.{findings_at, ranked_in_order}
use Rattle.tfpg_evidence.proofs.lemmas.FindingsByNumber.{RiseByNumber}
use Rattle.tfpg_predict.specs.LeastTime.{lookahead_of}
use Rattle.tfpg_predict.specs.Probed.{IsProbeable}
use Rattle.tfpg_answers.specs.inside.Forecasting.{IsAskable}
use Rattle.tfpg_answers.proofs.lemmas.predict.Appended.{follows_if}
use Rattle.tfpg_answers.proofs.predict.forecasts.append_forecasts.Goals as goal

pub probed-requires-clause-probeable : goal.probed-requires-clause-probeable
probed-requires-clause-probeable g c =
    subst₂ (λ (graph : Tfpg) (log : Logbook). IsProbeable (lookahead_of graph log c.args.node c.args.to)) (sym c.graph-graph.ensures) (sym c.log-log.ensures.log) c.requires.probeable

pub append_ranked-requires-clause-query : goal.append_ranked-requires-clause-query
append_ranked-requires-clause-query g c = record {
  valid = c.is_always_valid.ensures.valid;
  ordered = c.is_always_ordered.ensures;
  probeable = subst₂ (λ (graph : Tfpg) (log : Logbook). IsProbeable (lookahead_of graph log c.args.node c.args.to)) (sym c.graph-graph.ensures) (sym c.log-log.ensures.log) c.requires.probeable;
  budget = omega (arith, c.budget.ensures, c.requires.budget);
  number = c.in_ok-probed.ensures.probed.number;
  named = c.in_ok-probed.ensures.probed.named;
  probed_is = c.in_ok-probed.ensures.probed.graph_is;
}

pub append_ranked-requires-clause-askable : goal.append_ranked-requires-clause-askable
append_ranked-requires-clause-askable g c =
    subst₂ (λ (graph : Tfpg) (findings : List Finding). All (IsAskable graph) findings) (sym c.graph-graph.ensures) (sym c.as_slice.ensures) c.requires.askable

pub append_ranked-requires-clause-rising : goal.append_ranked-requires-clause-rising
append_ranked-requires-clause-rising g c = subst RiseByNumber (sym c.as_slice.ensures) c.requires.rising

pub returns : goal.returns
returns g c =
    follows_if _ (findings_at c.as_slice.result.now c.as_slice-2.result.now) c.args.into.now.items c.append_ranked.new.into.items c.append_ranked.result c.append_ranked.ensures
    c.in_ok-probed.ensures.probed.number c.in_ok-probed.ensures.probed.named c.in_ok-probed.ensures.probed.graph_is
    c.args.diagnosis.now.engine.graph c.args.diagnosis.now.engine.log c.args.diagnosis.now.engine.terms.budget (ranked_in_order c.args.last.now)
    c.graph-graph.ensures c.log-log.ensures.log c.budget.ensures (λ i. findings_at (c.as_slice.ensures i) (c.as_slice-2.ensures i))
