use Rattle.std.proofs.Common.{ap, sym, ◌∙◌}
use Rattle.std.specs.Prelude.{slice_get}
use Rattle.std.proofs.lemmas.Option.{IfSome_then}
use Rattle.std.proofs.lemmas.Result.{IfOk-weaker}
use Rattle.tfpg_base.specs.Hypothesis.{Hypothesis}
use Rattle.tfpg_hyp.specs.Hypotheses.{Hypotheses}
use Rattle.tfpg_log.specs.Log.{ignoring}
use Rattle.tfpg_whatif.specs.inside.Asking.{asked_by}
use Rattle.tfpg_whatif.proofs.lemmas.AtOnce.{explained_before, own_last, shown_at_once}
use Rattle.tfpg_whatif.proofs.lemmas.Asked.{found_by, its_members, its_reach, its_log, has_event}
use Rattle.tfpg_whatif.proofs.lemmas.Continued.{can_continue}
use Rattle.tfpg_whatif.proofs.outcomes.outcome_of.Goals as goal

pub outcome_at_once-requires : goal.outcome_at_once-requires
outcome_at_once-requires g c =
    its_log c.args.asking.now.engine.now.graph c.args.asking.now.engine.now.terms c.table-table.result.now c.table-table.ensures.of c.args.number c.hypothesis-hypothesis.result
    c.hypothesis-hypothesis.ensures c.graph-graph.result.now c.args.log.now c.ignore.new.self c.graph-graph.ensures c.requires.log.own (c.ignore.ensures ∙ ap (λ (h : Hypothesis). ignoring c.args.log.now h.doubts) c.hypothesis.view_is)

pub find_outcome-requires : goal.find_outcome-requires
find_outcome-requires g c =
    let graph = c.args.asking.now.engine.now.graph in
    let terms = c.args.asking.now.engine.now.terms in
    let hypothesis : Hypothesis = c.hypothesis-hypothesis.result in
    let there = c.hypothesis-hypothesis.ensures in
    record {
      of = its_log graph terms c.table-table.result.now c.table-table.ensures.of c.args.number hypothesis there c.graph-graph.result.now c.args.log.now c.ignore.new.self c.graph-graph.ensures c.requires.log.own (c.ignore.ensures ∙ ap (λ (h : Hypothesis). ignoring c.args.log.now h.doubts) c.hypothesis.view_is);
      event = has_event c.args.log.now c.ignore.new.self c.hypothesis-hypothesis.result.doubts (c.ignore.ensures ∙ ap (λ (h : Hypothesis). ignoring c.args.log.now h.doubts) c.hypothesis.view_is) c.requires.log.event;
      members = its_members graph terms c.table-table.result.now c.table-table.ensures.of c.args.number hypothesis there c.graph-graph.result.now c.graph-graph.ensures;
      reaches = its_reach graph terms c.table-table.result.now c.table-table.ensures.of c.args.number hypothesis there c.graph-graph.result.now c.reach.result.now c.graph-graph.ensures c.reach.ensures;
      kept = IfSome_then c.search.result
          (c.search.ensures.represents hypothesis (sym (ap (λ (t : Hypotheses). slice_get t.hypotheses c.args.number) c.table-table.ensures.table) ∙ there))
          (λ search lent.
          can_continue c.args.asking.now.engine.now c.graph-graph.result.now hypothesis search.now c.args.log.now c.ignore.new.self c.graph-graph.ensures c.requires.log.goes_on (c.ignore.ensures ∙ ap (λ (h : Hypothesis). ignoring c.args.log.now h.doubts) c.hypothesis.view_is) lent);
      budget = c.requires.budget;
    }

pub returns-in-Some-clause-found : goal.returns-in-Some-clause-found
returns-in-Some-clause-found g c =
    let hypothesis : Hypothesis = c.hypothesis-hypothesis.result in
    let there = c.hypothesis-hypothesis.ensures in
    found_by (asked_by c.args.asking.now c.args.log.now) c.table-table.result.now c.graph-graph.result.now c.args.number hypothesis c.reach.result.now c.ignore.new.self c.in-Some.outcome
    (ap (λ (t : Hypotheses). t.hypotheses) c.table-table.ensures.table) c.table-table.ensures.of there c.reach.ensures c.graph-graph.ensures (c.ignore.ensures ∙ ap (λ (h : Hypothesis). ignoring c.args.log.now h.doubts) c.hypothesis.view_is)
    (shown_at_once c.in_ok-outcome.field-0 c.in-Some.outcome c.in-Some.is _
    (c.in_ok-outcome.ensures (ignoring c.requires.last.earlier c.hypothesis-hypothesis.result.doubts) c.hypothesis-hypothesis.result.set c.args.asking.now.budget
    (own_last c.args.log.now c.requires.last.earlier c.ignore.new.self c.hypothesis-hypothesis.result.doubts c.args.last.now.event c.requires.last.events (c.ignore.ensures ∙ ap (λ (h : Hypothesis). ignoring c.args.log.now h.doubts) c.hypothesis.view_is))
    (explained_before c.args.asking.now c.args.last.now c.args.log.now c.requires.last c.graph-graph.result.now c.args.index c.args.number hypothesis c.graph-graph.ensures c.requires.at
    (sym (ap (λ (t : Hypotheses). slice_get t.hypotheses c.args.number) c.table-table.ensures.table) ∙ there))))

pub returns-in-None-clause-found : goal.returns-in-None-clause-found
returns-in-None-clause-found g c =
    IfOk-weaker c.find_outcome.result _ _
    (λ outcome shown.
    found_by (asked_by c.args.asking.now c.args.log.now) c.table-table.result.now c.graph-graph.result.now c.args.number c.hypothesis-hypothesis.result
    c.reach.result.now c.ignore.new.self outcome (ap (λ (t : Hypotheses). t.hypotheses) c.table-table.ensures.table) c.table-table.ensures.of
    c.hypothesis-hypothesis.ensures c.reach.ensures c.graph-graph.ensures (c.ignore.ensures ∙ ap (λ (h : Hypothesis). ignoring c.args.log.now h.doubts) c.hypothesis.view_is) shown) c.find_outcome.ensures
