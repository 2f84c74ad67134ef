use Rattle.std.proofs.Common.{List, ap, ◌∙◌}
use Rattle.tfpg_graph.specs.Graph.{sizes_of}
use Rattle.tfpg_evidence.specs.declared.finding.Finding.{Finding}
use Rattle.tfpg_evidence.specs.RoundOf.{finding_numbered}
use Rattle.tfpg_diagnose.proofs.lemmas.texts.RankedFindings.{found_is_of_graph, found_is_ranked, number_at, rank_found}
use Rattle.tfpg_diagnose.proofs.texts.session.ranked_in.Goals as goal

pub returns-clause-within : goal.returns-clause-within
returns-clause-within c =
    let number = c.in_ok-number.number.now in
    let looked = c.in_ok-number.ensures.lookup in
    rank_found (sizes_of c.args.graph.now) c.args.round.now c.requires c.args.rank number (number_at c.as_slice.result.now c.args.round.now.order c.args.rank number c.as_slice.ensures looked.0 looked.1) c.finding_numbered.result
    (c.finding_numbered.ensures ∙ ap (λ (findings : List Finding). finding_numbered findings number) c.as_slice-2.ensures)

pub returns-clause-ranked : goal.returns-clause-ranked
returns-clause-ranked c =
    let number = c.in_ok-number.number.now in
    let looked = c.in_ok-number.ensures.lookup in
    found_is_ranked (sizes_of c.args.graph.now) c.args.round.now c.requires c.args.rank number (number_at c.as_slice.result.now c.args.round.now.order c.args.rank number c.as_slice.ensures looked.0 looked.1) c.finding_numbered.result
    (c.finding_numbered.ensures ∙ ap (λ (findings : List Finding). finding_numbered findings number) c.as_slice-2.ensures)

pub returns-clause-of_graph : goal.returns-clause-of_graph
returns-clause-of_graph c =
    let number = c.in_ok-number.number.now in
    let looked = c.in_ok-number.ensures.lookup in
    found_is_of_graph (sizes_of c.args.graph.now) c.args.round.now c.requires c.args.rank number (number_at c.as_slice.result.now c.args.round.now.order c.args.rank number c.as_slice.ensures looked.0 looked.1) c.finding_numbered.result
    (c.finding_numbered.ensures ∙ ap (λ (findings : List Finding). finding_numbered findings number) c.as_slice-2.ensures)
