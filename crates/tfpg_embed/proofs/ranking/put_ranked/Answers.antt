use Rattle.std.proofs.Common.{length, Option, IfSome, subst, sym, ◌∙◌}
use Rattle.std.specs.Prelude.{IsSomeAnd}
use Rattle.tfpg_graph.specs.Graph.{Tfpg, sizes_of}
use Rattle.tfpg_evidence.specs.declared.finding.Finding.{Finding}
use Rattle.tfpg_evidence.specs.RoundOf.{IsFindingOf}
use Rattle.tfpg_embed.specs.Ranking.{HasNumbersOf, answer_of_found, times_of_found}
use Rattle.tfpg_embed.proofs.ranking.put_ranked.Goals as goal

pub put_found-requires-clause-of_graph : goal.put_found-requires-clause-of_graph
put_found-requires-clause-of_graph c = subst (λ (g : Tfpg). IfSome c.ranked_at.result (λ finding. IsFindingOf (sizes_of g) finding.now)) (sym c.graph.ensures) c.ranked_at.ensures.of_graph

pub returns-clause-answer : goal.returns-clause-answer
returns-clause-answer c = c.put_found.ensures.answer ∙ (λ i. answer_of_found (length (c.graph.ensures i).nodes) (length c.args.times.now) (c.ranked_at.ensures.finding i))

pub returns-clause-done : goal.returns-clause-done
returns-clause-done c is = subst (λ (found : Option Finding). IsSomeAnd found (λ finding. HasNumbersOf finding c.put_found.new.ranked)) c.ranked_at.ensures.finding (c.put_found.ensures.done is)

pub returns-clause-times : goal.returns-clause-times
returns-clause-times c = c.put_found.ensures.times ∙ (λ i. times_of_found (length (c.graph.ensures i).nodes) (c.ranked_at.ensures.finding i) c.args.times.now)
