use Rattle.std.proofs.Common.{Option, IfSome, IsTrue, subst, sym, ◌∙◌}
use Rattle.std.specs.Borrow.{Bor}
use Rattle.std.specs.Option.{option_copied}
use Rattle.tfpg_evidence.specs.declared.finding.Finding.{Finding}
use Rattle.tfpg_evidence.specs.RoundOf.{is_ranked}
use Rattle.tfpg_embed.specs.Ranking.{times_of_found}
use Rattle.tfpg_embed.proofs.lemmas.Masks.{short_room}
use Rattle.tfpg_embed.proofs.ranking.put_found.Goals as goal

pub returns-then-is_short-clause-times : goal.returns-then-is_short-clause-times
returns-then-is_short-clause-times c =
    short_room c.node_count-nodes.result c.in-Some.finding.now.status c.args.times.now
    (subst (λ (found : Option (Bor Finding)). IfSome found (λ finding. IsTrue (is_ranked finding.now.status))) c.in-Some.is c.requires.ranked) (sym c.is_short.ensures ∙ c.if-is_short.true)
    ∙ (λ i. times_of_found (c.node_count-nodes.ensures.count i) (option_copied (sym c.in-Some.is i)) c.args.times.now)
